use Rattle.std.proofs.Common.{◌∙◌, [], ◌∷◌, subst, sym, ap, refl}
use Rattle.session_attrs.specs.Terms.{terms_of}
use Rattle.session_core.specs.declared.opening.Opening as core
use Rattle.session_core.specs.Journal.{IsOpening}
use Rattle.session_journal.specs.declared.entry.Entry as journal_entry
use Rattle.session_journal.specs.Recording.{Recording}
use Rattle.session_journal.proofs.OpenedLemmas.{first_entry}
use Rattle.session_table.proofs.OpeningLemmas.{may_open}
use Rattle.session_table.proofs.directory.begin.Goals as goal

pub open-requires : goal.open-requires
open-requires c =
    let creation = c.requires.may.creation in
    subst IsOpening (sym (c.in_ok-session_opening.ensures creation.0 creation.1))
    (may_open c.args.opening.now c.args.number c.args.sid.now (terms_of creation.0) c.requires.may c.requires.few refl c.requires.sid)

pub returns-clause-log : goal.returns-clause-log
returns-clause-log c =
    let creation = c.requires.may.creation in
    ap (λ (r : Recording). r.log) c.in_ok-begun.ensures.log
    ∙ ap (λ (e : journal_entry.Entry). e ∷ []) c.in_ok-begun.ensures.entry
    ∙ ap (λ (o : core.Opening). first_entry 0 o ∷ []) (c.in_ok-session_opening.ensures creation.0 creation.1)

pub returns-clause-answer : goal.returns-clause-answer
returns-clause-answer c = record {
  journal = record { opening = c.in_ok-session_opening.field-0; entries = [] };
  is = c.in_ok-begun.ensures.journal;
  answer_is = c.in_ok-begun.ensures.text;
}
