-- What wrong pumps would do with the streams of a session is no move.
use Rattle.std.proofs.Common.{◌≡◌, ◌≢◌, ℕ, true, false, List, [], ◌∷◌, set, Option, Some, None, refl, sym, ap, ◌∙◌, true≢false, codes, eqb-true}
use Rattle.std.specs.Prelude.{◌==◌}
use Rattle.std.proofs.lemmas.Option.{same_Some}
use Rattle.bosh_types.specs.declared.inward.Inward.{Inward}
use Rattle.bosh_types.specs.declared.inward.Inward.TheVariants as inward
use Rattle.session_pump.specs.Giving.{is_open_here}
use Rattle.session_pump.specs.Hosts.{HostFacts}
use Rattle.session_pump.specs.Sides.{IsCutAmong, Strand, StrandMove, asks_room, closes, does_nothing, fails_at, fails_to_close, fails_to_open, gives, gives_last, is_for, is_met, lets_go, opens, passes, refuses, stream_of, tells_cut, wants}
use Rattle.session_pump.specs.Turns.{first_stage}
use Rattle.session_pump.specs.declared.line.Side.{Side}
use Rattle.session_pump.specs.declared.line.Stage.TheVariants as stages
use Rattle.session_pump.proofs.ListLemmas.{got_other}

-- ---- rows

-- streams 0 and 1 of the session with the opening number 3, at two hosts: the one is open on the first back end of its host, the other on the second
abbrev zeroth : Side
zeroth = record { stream = 0; host = Some 0; wire = 24; stage = stages.Opened 0; owed = None }

abbrev first : Side
first = record { stream = 1; host = Some 1; wire = 25; stage = stages.Opened 1; owed = None }

a_stanza_goes_to_its_stream : is_for 1 (inward.Item 1 (codes "<a/>")) ≡ true
a_stanza_goes_to_its_stream = refl

a_stanza_goes_to_no_other : is_for 0 (inward.Item 1 (codes "<a/>")) ≡ false
a_stanza_goes_to_no_other = refl

an_open_item_is_not_passed : is_for 1 (inward.Open 1 (codes "example.com")) ≡ false
an_open_item_is_not_passed = refl

a_close_item_is_not_passed : is_for 1 (inward.Close 1) ≡ false
a_close_item_is_not_passed = refl

a_stream_is_met : is_met 1 (zeroth ∷ first ∷ []) ≡ true
a_stream_is_met = refl

another_is_not : is_met 2 (zeroth ∷ first ∷ []) ≡ false
another_is_not = refl

it_is_open_at_its_host : is_open_here 1 1 1 first ≡ true
it_is_open_at_its_host = refl

it_is_not_at_another : is_open_here 1 0 1 first ≡ false
it_is_not_at_another = refl

nor_on_the_next_back_end : is_open_here 1 1 2 first ≡ false
nor_on_the_next_back_end = refl

nor_is_it_another_stream : is_open_here 0 1 1 first ≡ false
nor_is_it_another_stream = refl

the_first_without_a_host_has_no_wire : first_stage None ≡ stages.Lost
the_first_without_a_host_has_no_wire = refl

-- ---- an item of another stream is not touched: it isn't passed on this wire, nor let go

apart_so : (item other : Inward) (kept : Option Inward) (stream : ℕ) → kept ≡ Some item → kept ≡ Some other → stream_of item ≢ stream → stream_of other ≡ stream → ⊥
apart_so item other kept stream is so apart same = apart (ap stream_of (same_Some item other (sym is ∙ so)) ∙ same)

stream_for : (item : Inward) (stream : ℕ) → is_for stream item ≡ true → ((a b : ℕ) → (a == b) ≡ true → a ≡ b) → stream_of item ≡ stream
stream_for (inward.Item on text) stream for eq = eq on stream for
stream_for (inward.Restart on) stream for eq = eq on stream for
stream_for (inward.Open on to) stream for eq = absurd (true≢false (sym for))
stream_for (inward.Close on) stream for eq = absurd (true≢false (sym for))

same_numbers : (a b : ℕ) → (a == b) ≡ true → a ≡ b
same_numbers a b is = eqb-true a b is

pub another_stream_keeps_it : {moment : Option ℕ} {s t : Strand} (item : Inward) → StrandMove moment s t → s.kept ≡ Some item → stream_of item ≢ s.side.stream → t.kept ≡ s.kept
another_stream_keeps_it item (wants new call error called) is apart = refl
another_stream_keeps_it item (opens told unopened becomes) is apart = refl
another_stream_keeps_it item (fails_to_open ends unopened failed) is apart = refl
another_stream_keeps_it {s = s} item (passes other told opened so for becomes) is apart =
    absurd (apart_so item other s.kept s.side.stream is so apart (stream_for other s.side.stream for same_numbers))
another_stream_keeps_it {s = s} item (fails_at other ends opened so for failed) is apart =
    absurd (apart_so item other s.kept s.side.stream is so apart (stream_for other s.side.stream for same_numbers))
another_stream_keeps_it {s = s} item (closes told opened so becomes) is apart = absurd (apart_so item (inward.Close s.side.stream) s.kept s.side.stream is so apart refl)
another_stream_keeps_it {s = s} item (fails_to_close ends opened so failed) is apart = absurd (apart_so item (inward.Close s.side.stream) s.kept s.side.stream is so apart refl)
another_stream_keeps_it {s = s} item (lets_go other so of passing opened closed) is apart = absurd (apart_so item other s.kept s.side.stream is so apart of)
another_stream_keeps_it item (does_nothing told becomes) is apart = refl
another_stream_keeps_it item (tells_cut new now reply cut at called) is apart = refl
another_stream_keeps_it item (asks_room owing new owed asked) is apart = refl
another_stream_keeps_it item (refuses owing new owed refused) is apart = refl
another_stream_keeps_it item (gives owing new told owed took opened becomes) is apart = refl
another_stream_keeps_it item (gives_last owing new owed took closed) is apart = refl

-- ---- a failure at one host cuts no stream of another

pub another_host_cuts_nothing : (hosts : List HostFacts) (at : ℕ) (host : HostFacts) (side : Side) → side.host ≢ Some at → IsCutAmong (set hosts at host) side → IsCutAmong hosts side
another_host_cuts_nothing hosts at host side apart cut = record {
  at = cut.at;
  host = cut.host;
  to = cut.to;
  there = sym (got_other hosts at cut.at host (λ e. apart (cut.to ∙ ap Some e))) ∙ cut.there;
  on = cut.on;
  opened = cut.opened;
  failed = cut.failed;
}
