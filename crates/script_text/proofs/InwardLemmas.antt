-- What a report tells inward of a session.
use Rattle.std.proofs.Common.{◌≡◌, ℕ, ◌==◌, Bool, true, false, List, [], ◌∷◌, ◌++◌, map, Option, Some, None, refl, sym, ◌∙◌, ap, cond, if◌then◌else◌}
use Rattle.std.specs.Prelude.{filter}
use Rattle.std.specs.List.{cons_option}
use Rattle.std.proofs.lemmas.List.{append-nil}
use Rattle.std.proofs.lemmas.List.Elements.{filter_map-append}
use Rattle.bosh_types.specs.declared.ending.Ending.{Ending}
use Rattle.bosh_types.specs.declared.inward.Inward.{Inward}
use Rattle.session_core.specs.State.{inward}
use Rattle.script_text.specs.declared.report.ReportLine.{ReportLine}
use Rattle.script_text.specs.declared.report.ReportLine.TheVariants.{In, Out, Lost, Gone, Refused, Over, Done, Bad}
use Rattle.script_text.specs.Headline.{tells_of, item_in, inward_told, IsTold}
use Rattle.script_text.specs.Live.{PlainLive, state, over_lines}
use Rattle.script_text.proofs.ToldLemmas.{same_number}

-- a line that is left out tells nothing of the session
item_kept : (n session : ℕ) (item : Inward) (lines kept : List ReportLine) → inward_told n kept ≡ inward_told n lines → (b : Bool) → (session == n) ≡ b
    → inward_told n (cond b (In session item ∷ kept) kept) ≡ inward_told n (In session item ∷ lines)
item_kept n session item lines kept rest true is = ap (cons_option (if session == n then Some item else None)) rest
item_kept n session item lines kept rest false is = rest ∙ sym (ap (λ b. cons_option (if b then Some item else None) (inward_told n lines)) is)

over_kept : (n session : ℕ) (ending : Ending) (lines kept : List ReportLine) → inward_told n kept ≡ inward_told n lines → (b : Bool)
    → inward_told n (cond b (Over session ending ∷ kept) kept) ≡ inward_told n lines
over_kept n session ending lines kept rest true = rest
over_kept n session ending lines kept rest false = rest

told_kept : (n : ℕ) (report : List ReportLine) → inward_told n (filter (tells_of n) report) ≡ inward_told n report
told_kept n [] = refl
told_kept n (In session item ∷ report) = item_kept n session item report (filter (tells_of n) report) (told_kept n report) (session == n) refl
told_kept n (Out conn body ∷ report) = told_kept n report
told_kept n (Lost conn ∷ report) = told_kept n report
told_kept n (Gone conn ∷ report) = told_kept n report
told_kept n (Refused session refusal ∷ report) = told_kept n report
told_kept n (Over session ending ∷ report) = over_kept n session ending report (filter (tells_of n) report) (told_kept n report) (session == n)
told_kept n (Done line ∷ report) = told_kept n report
told_kept n (Bad line kind ∷ report) = told_kept n report

told_items : (n : ℕ) (items : List Inward) → inward_told n (map (In n) items) ≡ items
told_items n [] = refl
told_items n (item ∷ items) =
    ap (λ b. cons_option (if b then Some item else None) (inward_told n (map (In n) items))) (same_number n)
    ∙ ap (λ l. item ∷ l) (told_items n items)

told_over : (n : ℕ) (ending : Option Ending) → inward_told n (over_lines n ending) ≡ []
told_over n None = refl
told_over n (Some ending) = refl

-- what is told inward of a session is what may go inward
pub inward_is : (report : List ReportLine) (s : PlainLive) → IsTold report s → inward_told s.number report ≡ inward (state s)
inward_is report s told =
    sym (told_kept s.number report)
    ∙ ap (inward_told s.number) told
    ∙ filter_map-append (item_in s.number) (map (In s.number) (inward (state s))) (over_lines s.number (state s).ending)
    ∙ ap (λ l. l ++ inward_told s.number (over_lines s.number (state s).ending)) (told_items s.number (inward (state s)))
    ∙ ap (λ l. inward (state s) ++ l) (told_over s.number (state s).ending)
    ∙ append-nil (inward (state s))
