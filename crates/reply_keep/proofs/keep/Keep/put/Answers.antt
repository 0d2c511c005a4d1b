use Rattle.std.proofs.Common.{◌≡◌, ◌<◌, ◌∷◌, None, Some, take, length, get_or, sym, ◌∙◌, ap, arith}
use Rattle.std.specs.List.{slice_get}
use Rattle.reply_keep.specs.StandsFor.{StandsFor}
use Rattle.reply_keep.proofs.Kept.{next_cases}
use Rattle.reply_keep.proofs.Places.{oldest, Holds-put}
use Rattle.reply_keep.proofs.Ring.{get_none, get_some, pushed}
use Rattle.reply_keep.proofs.keep.Keep.put.Goals as goal

pub returns-in-Some-clause-handed_back : goal.returns-in-Some-clause-handed_back
unfolding StandsFor
returns-in-Some-clause-handed_back c = λ plain stands follows.
    let places = c.args.self.now.answers.items in
    let some : 0 < length places = omega arith in
    let next = next_cases plain.put c.args.rid follows in
    sym (get_some (Some c.args.answer ∷ places) (length places) c.in-Some.answer (ap (slice_get (Some c.args.answer ∷ places)) c.args.self.now.full ∙ sym c.push_front-oldest.ensures.value ∙ c.in-Some.is))
    ∙ oldest c.args.rid c.args.answer stands some next

pub returns-in-None-clause-handed_back : goal.returns-in-None-clause-handed_back
unfolding StandsFor
returns-in-None-clause-handed_back c = λ plain stands follows.
    let places = c.args.self.now.answers.items in
    let some : 0 < length places = omega arith in
    let next = next_cases plain.put c.args.rid follows in
    sym (get_none (Some c.args.answer ∷ places) (length places) (ap (slice_get (Some c.args.answer ∷ places)) c.args.self.now.full ∙ sym c.push_front-oldest.ensures.value ∙ c.in-None.is))
    ∙ oldest c.args.rid c.args.answer stands some next

pub returns-in-Some-clause-after : goal.returns-in-Some-clause-after
unfolding StandsFor
returns-in-Some-clause-after c = λ plain stands follows.
    let places = c.args.self.now.answers.items in
    let moved : c.push_front-oldest.new.self.items ≡ pushed c.args.answer places =
    ap (λ ring. ring.items) c.push_front-oldest.ensures.items ∙ ap (λ n. take n (Some c.args.answer ∷ places)) (sym c.args.self.now.full) in
    rw moved (Holds-put c.args.rid c.args.answer stands (omega arith) (omega arith) (next_cases plain.put c.args.rid follows))

pub returns-in-None-clause-after : goal.returns-in-None-clause-after
unfolding StandsFor
returns-in-None-clause-after c = λ plain stands follows.
    let places = c.args.self.now.answers.items in
    let moved : c.push_front-oldest.new.self.items ≡ pushed c.args.answer places =
    ap (λ ring. ring.items) c.push_front-oldest.ensures.items ∙ ap (λ n. take n (Some c.args.answer ∷ places)) (sym c.args.self.now.full) in
    rw moved (Holds-put c.args.rid c.args.answer stands (omega arith) (omega arith) (next_cases plain.put c.args.rid follows))
