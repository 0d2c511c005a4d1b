use Rattle.std.proofs.Common.{◌≡◌, ℕ, [], List, Result, Ok, Err, IfOk, refl, subst}
use Rattle.bosh_types.specs.declared.hosts.HostName.{HostName}
use Rattle.script_text.specs.declared.line.ScriptLine.{ScriptLine}
use Rattle.script_text.specs.declared.line.ScriptLine.TheVariants.{Open, Short, Host, At, Post, Close, Back, Shut, End}
use Rattle.script_text.specs.declared.manager.Manager.{Manager}
use Rattle.script_text.specs.declared.run.Effect.{Effect}
use Rattle.script_text.specs.Manager.{PlainManager, new_manager}
use Rattle.script_text.specs.Script.{body_step, first_step}
use Rattle.script_text.specs.Stands.{Does, IsManager}
use Rattle.script_text.proofs.drive.first_effect.Goals as goal

-- but for `open`, the first line does to a new manager what each later one would
first_as : (n : ℕ) (said : ScriptLine) → ((rid : ℕ) → said ≡ Open rid → ⊥) → body_step new_manager n said ≡ first_step n said
first_as n (Open rid) other = absurd (other rid refl)
first_as n (Short rid stanza) other = refl
first_as n (Host name greeting) other = refl
first_as n (At moment) other = refl
first_as n (Post conn body) other = refl
first_as n (Close conn) other = refl
first_as n (Back sid stream stanza) other = refl
first_as n (Shut sid stream closing) other = refl
first_as n End other = refl

first_by : {E : Type 0} (r : Result Effect E) (manager : Manager) (hosts : List HostName) (n : ℕ) (said : ScriptLine) → hosts ≡ []
    → IsManager manager (record new_manager { hosts = hosts }) → ((rid : ℕ) → said ≡ Open rid → ⊥)
    → IfOk r (λ effect. (m : PlainManager) → IsManager manager m → Does effect (body_step m n said)) → IfOk r (λ effect. Does effect (first_step n said))
first_by (Ok effect) manager hosts n said none new other did =
    subst (Does effect) (first_as n said other) (did new_manager (subst (λ (h : List HostName). IsManager manager (record new_manager { hosts = h })) none new))
first_by (Err e) manager hosts n said none new other did = tt

pub returns-in_default : goal.returns-in_default
returns-in_default c =
    first_by c.body_effect.result c.new-in_default.result c.new.result c.args.n c.args.said c.new.ensures c.new-in_default.ensures c.in_default.not-Open c.body_effect.ensures
