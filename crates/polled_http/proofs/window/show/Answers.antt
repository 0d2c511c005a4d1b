use Rattle.std.proofs.Common.{◌≡◌, ◌+◌, ◌≤◌, ◌-◌, ◌*◌, ◌++◌, ◌∙◌, Bor, List, ℕ, [], drop, take, length, get_or, arith, sym, ap, subst, false}
use Rattle.bosh_ports.proofs.PartsLemmas.{joined, joined_more, joined_split}
use Rattle.polled_http.specs.Windows.{Shows, ShowsMore}
use Rattle.polled_http.proofs.WindowLemmas.{parts_small, place_fits, shows_cut, shows_part, skips_part}
use Rattle.polled_http.proofs.window.show.Goals as goal

-- a part that isn't there
abbrev none : Bor (List ℕ)
none = record { ref_ptr = (0, 0); now = [] }

pub returns-then-not-push_front-clause-shows : goal.returns-then-not-push_front-clause-shows
returns-then-not-push_front-clause-shows c =
    let parts = c.args.parts.now in
    let i = c.loop-part.part-index in
    let bytes : Bor (List ℕ) → List ℕ = λ part. part.now in
    let before = joined bytes (take i parts) in
    let part = (get_or parts i none).now in
    let others = joined bytes (drop (i + 1) parts) in
    let whole = joined_split bytes parts (i + 1) ∙ ap (λ l. l ++ others) (joined_more bytes parts i none c.loop-part-test.true) in
    let shown = c.push_front.new.room.items in
    subst (λ text. Shows (drop c.args.place text) shown false) (sym whole)
    (shows_cut c.args.place c.loop-part.skip before part others c.loop-part.room.items shown c.behind-left.result.0.now c.loop-part.invariant.shown c.loop-part.invariant.skip c.behind-left.ensures.rest
    (subst (λ b. ShowsMore c.loop-part.room.items shown c.behind-left.result.0.now b) c.if-not-push_front.true c.push_front.ensures))

pub returns-then-not-push_front-clause-fits : goal.returns-then-not-push_front-clause-fits
returns-then-not-push_front-clause-fits c = λ _.
    let parts = c.args.parts.now in
    let i = c.loop-part.part-index in
    let bytes : Bor (List ℕ) → List ℕ = λ part. part.now in
    let shown = c.push_front.new.room.items in
    place_fits c.args.place c.loop-part.skip i (joined bytes (take i parts)) (get_or parts i none).now c.loop-part.room.items shown c.behind-left.result.0.now
    c.loop-part.invariant.shown c.loop-part.invariant.skip c.behind-left.ensures.rest
    (subst (λ b. ShowsMore c.loop-part.room.items shown c.behind-left.result.0.now b) c.if-not-push_front.true c.push_front.ensures)
    (omega (arith, c.loop-part-test.true, c.loop-part.auto.part-index-end)) c.loop-part.invariant.small c.behind-left.ensures.small

pub loop-part-preserved : goal.loop-part-preserved
loop-part-preserved c =
    let parts = c.args.parts.now in
    let i = c.loop-part.part-index in
    let bytes : Bor (List ℕ) → List ℕ = λ part. part.now in
    let before = joined bytes (take i parts) in
    let part = (get_or parts i none).now in
    let whole = joined_more bytes parts i none c.loop-part-test.true in
    let all = subst (λ b. ShowsMore c.loop-part.room.items c.push_front.new.room.items c.behind-left.result.0.now b) c.if-not-push_front.false c.push_front.ensures in
    record {
      shown = subst (λ text. c.push_front.new.room.items ≡ drop c.args.place text) (sym whole)
          (shows_part c.args.place c.loop-part.skip before part c.loop-part.room.items c.push_front.new.room.items c.behind-left.result.0.now c.loop-part.invariant.shown c.loop-part.invariant.skip
          c.behind-left.ensures.rest all);
      skip = subst (λ text. c.behind-left.result.1 ≡ c.args.place - length text) (sym whole)
          (skips_part c.args.place c.loop-part.skip c.behind-left.result.1 before part c.loop-part.invariant.skip c.behind-left.ensures.left);
      small = subst (λ text. length text ≤ (i + 1) * 18446744073709551615) (sym whole) (parts_small i before part c.loop-part.invariant.small c.behind-left.ensures.small);
    }
