-- Which of the eight streams has a name.
use Rattle.std.proofs.Common.{◌≡◌, ℕ, ◌<◌, true, cond, List, Some, None, refl, ◌∙◌, ap}
use Rattle.bosh_types.specs.Limits.{most_streams}
use Rattle.stream_names.specs.Streams.{name_of, named, numbers_from, those}
use Rattle.stream_names.proofs.Named.{named_none, named_stream}
use Rattle.stream_names.proofs.Numbers.{among}

all_eight : numbers_from 0 most_streams ≡ those (λ _. true)
unfolding those
all_eight = refl

pub name_found : (stream : ℕ) (name : List ℕ) → stream < most_streams → name ≡ name_of stream → named (numbers_from 0 most_streams) name ≡ Some stream
name_found stream name small is =
    ap (λ (xs : List ℕ). named xs name) all_eight ∙ named_stream (λ _. true) stream name small is ∙ ap (λ b. cond b (Some stream) None) (among (λ _. true) stream small)

pub name_none : (name : List ℕ) → ((stream : ℕ) → stream < most_streams → name ≡ name_of stream → ⊥) → named (numbers_from 0 most_streams) name ≡ None
name_none name unlike = ap (λ (xs : List ℕ). named xs name) all_eight ∙ named_none (λ _. true) name unlike
