use Rattle.std.proofs.Common.{◌≡◌, ◌∷◌, ◌-◌, ◌+◌, ◌<◌, ◌^◌, ◌++◌, [], ℕ, List, length, take, slice_set, sym, ◌∙◌, ap, subst, arith, length-append}
use Rattle.journal_store.specs.Group.{AreRecords}
use Rattle.journal_store.specs.Records.{record_of}
use Rattle.journal_store.proofs.GroupLemmas as lemmas
use Rattle.journal_store.proofs.group.Group.add.Goals as goal

bytes_are : (c : goal.After-self-1) → c.self.inside.bytes.items ≡ c.args.self.now ++ 0 ∷ []
bytes_are c = c.self.invariant.1 ∙ ap (λ (l : List ℕ). l ++ 0 ∷ []) c.self.view_is

gate_is : (c : goal.After-self-1) → c.len-gate.result - 1 ≡ length c.args.self.now
gate_is c =
    let size : length c.self.inside.bytes.items ≡ length c.args.self.now + 1 = ap length (bytes_are c) ∙ length-append c.args.self.now (0 ∷ []) in
    omega (arith, size, c.len-gate.ensures, c.self.inside.bytes.ok.0)

-- what the bytes are once the gate is opened
view_after : (c : goal.After-self-1) → take (c.push_framed.new.bytes.len - 1) (slice_set c.push_framed.new.bytes.items (c.len-gate.result - 1) 1) ≡ c.args.self.now ++ record_of c.args.content.now
view_after c =
    lemmas.opened_view c.self.inside.bytes.items c.args.self.now c.args.content.now c.push_framed.new.bytes.items (c.len-gate.result - 1)
    (bytes_are c) (gate_is c) c.in-Ok-push_framed.ensures.ok c.push_framed.new.bytes.len (omega (arith, c.push_framed.new.bytes.ok.0))

pub invariant_of-self : goal.invariant_of-self
invariant_of-self c =
    let fits : length c.args.content.now < 2 ^ 32 = omega (arith, c.in-Ok.ensures) in (
      subst AreRecords (sym (view_after c)) (lemmas.added_records c.args.self.now c.args.content.now (subst AreRecords c.self.view_is c.self.invariant.0) fits),
      lemmas.opened c.self.inside.bytes.items c.args.self.now c.args.content.now c.push_framed.new.bytes.items (c.len-gate.result - 1) (bytes_are c) (gate_is c) c.in-Ok-push_framed.ensures.ok
          ∙ ap (λ (l : List ℕ). l ++ 0 ∷ []) (sym (view_after c)),
    )

pub returns-in-Ok-push_framed-clause-added : goal.returns-in-Ok-push_framed-clause-added
returns-in-Ok-push_framed-clause-added c = view_after c
