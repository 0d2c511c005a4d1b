use Rattle.std.proofs.Common.{◌≡◌, ◌∙◌, ◌+◌, ◌<◌, ◌≤◌, ◌++◌, ◌∷◌, [], map, ℕ, Bool, sym, ap, subst, arith}
use Rattle.std.specs.Prelude.{IfOk, IfSome}
use Rattle.bosh_types.specs.ById.{at_id}
use Rattle.rid_window.specs.StandsFor as windows
use Rattle.rid_window.specs.PlainWindow.{reach}
use Rattle.session_core.specs.declared.copy.RequestCopy.{RequestCopy}
use Rattle.session_core.specs.declared.place.Place.{Place}
use Rattle.session_core.specs.declared.place.Place.TheVariants as places
use Rattle.session_core.specs.declared.replies.Arrived.{Arrived}
use Rattle.session_core.specs.Answers.{settled}
use Rattle.session_core.specs.Arriving.{IsPlacedIn}
use Rattle.session_core.specs.Copy.{id_of, is_extra, with_id}
use Rattle.session_core.specs.Machine.{advanced, arrived_at, copy_now, placed, replied}
use Rattle.session_core.specs.StandsFor.{StandsFor}
use Rattle.session_core.specs.State.{PlainSession, last_of, standing}
use Rattle.session_core.specs.Steps.{Does}
use Rattle.session_core.specs.Window.{place_of}
use Rattle.session_core.proofs.ArrivedLemmas.{arrived_new, beyond_reach, place_above, place_new, same_place, within_reach}
use Rattle.session_core.proofs.StandingLemmas.{moment_is}
use Rattle.session_core.proofs.session.Session.place.Goals as goal

pub returns-in-Done : goal.returns-in-Done
unfolding StandsFor
returns-in-Done c = λ plain stands live later.
    let rid : ℕ = c.args.request.now.rid in
    let is : c.in_ok-new.field-0 ≡ copy_now plain c.args.request.now c.args.body.now =
    c.in_ok-new.ensures
    ∙ (λ i. record { request = c.in_ok-copied_request.ensures i; body = c.in_ok-again.ensures i; arrived = moment_is stands i }) in
    let extra : c.is_extra-extra.result ≡ is_extra (copy_now plain c.args.request.now c.args.body.now) = c.is_extra-extra.ensures ∙ ap is_extra (sym c.in_ok-new.ensures ∙ is) in
    let told = c.in-Done.ensures.answer _ stands.window.stands in
    let reached = within_reach plain.creation (standing plain) c.args.self.now.last plain.terms.requests rid c.is_extra-extra.result (omega (arith, stands.run.last_is)) (omega (arith, stands.run.last_is, later)) told in
    let in_window : IsPlacedIn (record c.args.self.now { window = c.place.new.self }) plain c.in_ok-new.field-0 = record {
      window = c.args.self.now.window;
      before = stands;
      goes_on = live;
      later = omega (arith, later, ap id_of is);
      ack = subst (λ (k : RequestCopy). IfSome k.request.ack (λ ack. ack < id_of k)) (sym is) c.requires.ack;
      arrived = ap (λ (k : RequestCopy). k.arrived) c.in_ok-new.ensures;
      within = omega (arith, ap id_of is, c.value-value.ensures.in_range.1);
      free = ap (λ (n : ℕ). at_id (map with_id (standing plain)) n) (ap id_of is) ∙ reached.1;
      places = λ w stood. subst (λ (n : ℕ). windows.StandsFor c.place.new.self (record w { placed = w.placed ++ (n, c.in_ok-new.field-0) ∷ [] })) (sym (ap id_of is)) (c.in-Done.ensures.after w stood);
    } in
    let took = c.take_in.ensures plain c.in_ok-new.field-0 in_window (sym (ap id_of is)) in
    let place = place_new plain (copy_now plain c.args.request.now c.args.body.now) (omega (arith, stands.run.within)) later reached.1
    (subst (λ (b : Bool). rid ≤ last_of plain + reach plain.terms.requests b) extra (omega (arith, reached.0, stands.run.last_is))) in
    subst (λ (step : PlainSession × Arrived). IfOk c.take_in.result (λ reply. Does c.take_in.new.self reply step))
    (ap (λ (k : RequestCopy). replied (settled (advanced (placed plain k))) rid) is ∙ sym (arrived_new plain (copy_now plain c.args.request.now c.args.body.now) place))
    took

pub returns-in-Above : goal.returns-in-Above
unfolding StandsFor
returns-in-Above c = λ plain stands live later.
    let rid : ℕ = c.args.request.now.rid in
    let copy : RequestCopy = copy_now plain c.args.request.now c.args.body.now in
    let is : c.in_ok-new.field-0 ≡ copy =
    c.in_ok-new.ensures
    ∙ (λ i. record { request = c.in_ok-copied_request.ensures i; body = c.in_ok-again.ensures i; arrived = moment_is stands i }) in
    let extra : c.is_extra-extra.result ≡ is_extra copy = c.is_extra-extra.ensures ∙ ap is_extra (sym c.in_ok-new.ensures ∙ is) in
    let told = c.in-Above.ensures.answer _ stands.window.stands in
    let beyond = beyond_reach plain.creation (standing plain) c.args.self.now.last plain.terms.requests rid c.is_extra-extra.result (omega (arith, stands.run.last_is)) (omega (arith, stands.run.last_is, later))
    (omega (arith, c.value-value.ensures.in_range.1)) (told.1, told.2) in
    let place : place_of plain copy ≡ places.Above = place_above plain copy (omega (arith, stands.run.within)) later beyond.1
    (subst (λ (b : Bool). last_of plain + reach plain.terms.requests b < rid) extra (omega (arith, beyond.0, stands.run.last_is))) in
    subst (λ (at : Place). IfOk c.refuse_above.result (λ reply. Does c.refuse_above.new.self reply (arrived_at plain copy at))) (sym place)
    (c.refuse_above.ensures plain (same_place c.place.new.self stands c.in-Above.ensures.after) live)
