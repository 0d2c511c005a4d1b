use Rattle.std.proofs.Common.{◌≡◌, true, Some, arith, subst, sym, ap}
use Rattle.session_core.specs.Journal.{state_of}
use Rattle.session_journal.specs.declared.entry.Entered.TheVariants as stored
use Rattle.session_journal.specs.Recording.{Recording}
use Rattle.session_journal.specs.Redoing.{may_limit}
use Rattle.session_journal.specs.Stored.{After}
use Rattle.session_journal.specs.Storing.{Stands, by_caller}
use Rattle.session_journal.proofs.RecordedLemmas.{kept}
use Rattle.session_journal.proofs.RedoneLemmas.{after_here, limit_may, limit_stands}
use Rattle.session_journal.proofs.recorded.Recorded.meet_limit.Goals as goal

pub invariant_of-self-2 : goal.invariant_of-self-2
invariant_of-self-2 c =
    let old = (c.self.invariant).0 in
    let may : may_limit (state_of old.journal) c.args.kind c.args.cost c.args.now ≡ true =
    after_here old (λ s. may_limit s c.args.kind c.args.cost c.args.now ≡ true)
    (subst (λ l. After l (λ s. may_limit s c.args.kind c.args.cost c.args.now ≡ true)) (sym (ap (λ (r : Recording). r.log) c.self.view_is)) c.requires) in
    let on = (limit_may (state_of old.journal) c.args.kind c.args.cost c.args.now may).0 in
    let stays = kept c.self.inside.entries c.enter.new.entries c.args.caller (by_caller c.args.caller (Some (stored.Limit c.args.kind c.args.cost c.args.now))) c.self.inside.host (c.self.invariant).1 c.enter.ensures.entries in (
      subst (λ l. Stands c.meet_limit.new.self l c.self.inside.out) (sym (c.enter.ensures.entries).0)
          (limit_stands old c.meet_limit.new.self c.args.caller c.args.kind c.args.cost c.args.now may (c.in_ok-meet_limit.ensures.after _ old.stands on)),
      stays.0,
      omega (arith, stays.1, c.len.ensures, c.in_ok-has_room.ensures.ok),
    )
