use Rattle.std.proofs.Common.{◌≡◌, ◌++◌, ◌-◌, ◌∙◌, ℕ, List, ap, drop, length, sym, take}
use Rattle.std.proofs.lemmas.List.{take-append-drop}
use Rattle.std.proofs.lemmas.Slice.Eq.{bytes_eq-Decides}
use Rattle.session_table.proofs.sid.is_sid.Goals as goal

-- a text is what is left before a suffix, and then the suffix
joined : (text part digits : List ℕ) (n : ℕ) → drop n text ≡ digits → part ≡ take n text → text ≡ part ++ digits
joined text part digits n rest is = sym (take-append-drop n text) ∙ (ap (λ p. p ++ drop n text) (sym is) ∙ ap (λ d. part ++ d) rest)

pub returns-in-Some : goal.returns-in-Some
returns-in-Some c = λ yes.
    let cases = c.in-Some.ensures.cases in
    let digits = c.as_bytes.result.now in
    let n : ℕ = length c.args.sid.now - length digits in (
      c.in-Some.part.now,
      c.is_name_part.ensures yes,
      joined c.args.sid.now c.in-Some.part.now digits n ((bytes_eq-Decides (drop n c.args.sid.now) digits).0 cases.0) cases.1
          ∙ ap (λ d. c.in-Some.part.now ++ d) (c.as_bytes.ensures.value ∙ c.in_ok-digits.ensures.ok),
    )
