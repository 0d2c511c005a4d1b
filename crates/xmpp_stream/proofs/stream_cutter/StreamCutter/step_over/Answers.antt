use Rattle.std.proofs.Common.{◌≡◌, ◌∙◌, ℕ, false, List, take, refl, ap, subst}
use Rattle.std.specs.Prelude.{Option, IsTrue, IfNone, IfSome, ◌||◌}
use Rattle.xmpp_stream.specs.declared.stream_cutter.State.{State}
use Rattle.xmpp_stream.specs.Cut.{IsCut, IsWrong}
use Rattle.body_cutter.specs.Cutting.{is_stanza}
use Rattle.xmpp_stream.specs.declared.stage.Stage.TheVariants.{Inside}
use Rattle.xmpp_stream.specs.Qualified.{qualified}
use Rattle.xmpp_stream.specs.Stream.{error_mark, is_named}
use Rattle.xmpp_stream.proofs.CutLemmas.{broken_step, element_step}
use Rattle.xmpp_stream.proofs.stream_cutter.StreamCutter.step_over.Goals as goal

pub returns-in-None-clause-ok : goal.returns-in-None-clause-ok
unfolding IsCut
returns-in-None-clause-ok c = λ fed elements h o mark stanza.
    broken_step c.args.self.now c.go_wrong.new.self c.args.self.now.scan c.go_wrong.result h o
    (IsWrong.too_long c.args.count mark stanza (subst (λ (xs : List ℕ). is_stanza (qualified xs) ≡ false) (ap (take c.args.count) c.as_slice.ensures)
    (subst (λ (x : Option (List ℕ)). IfNone x (is_stanza (qualified (take c.args.count c.as_slice.result.now)) ≡ false)) c.in-None.is c.in_ok-alone.ensures.none)))
    c.go_wrong.ensures.told c.go_wrong.ensures.broken

pub returns-in-Some-clause-ok : goal.returns-in-Some-clause-ok
unfolding IsCut
returns-in-Some-clause-ok c = λ fed elements h o mark stanza.
    let e : take c.args.count c.as_slice.result.now ≡ take c.args.count c.args.self.now.kept = ap (take c.args.count) c.as_slice.ensures in
    let s : (c.in-Some.text ≡ qualified (take c.args.count c.as_slice.result.now)) × IsTrue (is_stanza (qualified (take c.args.count c.as_slice.result.now))) =
    subst (λ (x : Option (List ℕ)). IfSome x (λ (text : List ℕ). (text ≡ qualified (take c.args.count c.as_slice.result.now)) × IsTrue (is_stanza (qualified (take c.args.count c.as_slice.result.now))))) c.in-Some.is c.in_ok-alone.ensures.some in
    element_step c.args.self.now
    (record { alloc = c.pass.new.self.alloc; kept = c.pass.new.self.kept; scan = c.pass.new.self.scan; state = record { stage = c.pass.new.self.state.stage; is_broken = c.pass.new.self.state.is_broken; has_error = c.has_error_with-has_error.result; place = c.pass.new.self.state.place } })
    c.args.count Inside c.pass.ensures.kept c.pass.ensures.scan (ap (λ (x : State). x.stage) c.pass.ensures.state) (ap (λ (x : State). x.is_broken) c.pass.ensures.state) c.pass.ensures.place h o c.requires.within
    c.in-Some.text (s.0 ∙ ap qualified e) mark stanza (subst (λ (xs : List ℕ). IsTrue (is_stanza (qualified xs))) e s.1) refl
    (c.has_error_with-has_error.ensures ∙ ap (λ (xs : List ℕ). c.args.self.now.state.has_error || is_named error_mark xs) e)
