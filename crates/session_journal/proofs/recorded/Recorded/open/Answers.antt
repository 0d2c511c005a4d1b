use Rattle.std.proofs.Common.{◌≡◌, ◌∷◌, ◌++◌, [], List, Some, length, ◌∙◌, ap, sym, arith, rules}
use Rattle.session_journal.specs.declared.entry.Entry.{Entry}
use Rattle.session_journal.specs.Entries.{host_of}
use Rattle.session_journal.specs.Recording.{Recording}
use Rattle.session_journal.proofs.OpenedLemmas.{first_entry, first_stands, first_told}
use Rattle.session_journal.proofs.recorded.Recorded.open.Goals as goal

pub add-requires : goal.add-requires
add-requires c = omega (arith, ap length c.new-entries.ensures)

pub invariant_of-recorded : goal.invariant_of-recorded
invariant_of-recorded c =
    let o = c.args.opening in
    let is : c.add.new.self ≡ first_entry c.args.caller o ∷ [] = c.add.ensures ∙ ap (λ (l : List Entry). l ++ first_entry c.args.caller o ∷ []) c.new-entries.ensures in
    (first_stands c.args.caller o c.requires c.add.new.self is c.in_ok-session.session c.in_ok-session.ensures.session, ap host_of is ∙ ap Some (sym c.in_ok-home.ensures), omega (arith, ap length is))

pub returns-clause-log : goal.returns-clause-log
returns-clause-log c =
    let is : c.add.new.self ≡ first_entry c.args.caller c.args.opening ∷ [] = c.add.ensures ∙ ap (λ (l : List Entry). l ++ first_entry c.args.caller c.args.opening ∷ []) c.new-entries.ensures in
    ap {B = Recording} (λ (l : List Entry). record { log = l; out = 0 }) is

pub returns-clause-journal : goal.returns-clause-journal
returns-clause-journal c =
    first_told c.args.caller c.args.opening c.requires c.add.new.self
    (c.add.ensures ∙ ap (λ (l : List Entry). l ++ first_entry c.args.caller c.args.opening ∷ []) c.new-entries.ensures)
