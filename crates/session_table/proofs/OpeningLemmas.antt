-- What a session may be opened with under each number.
use Rattle.std.proofs.Common.{◌≡◌, ◌≤◌, ◌<◌, ◌+◌, ◌^◌, ℕ, Bool, true, false, List, [], ◌∷◌, ◌++◌, length, refl, sym, subst, length-append, arith}
use Rattle.std.specs.Prelude.{◌&&◌, max, min}
use Rattle.std.specs.Fmt.{decimal}
use Rattle.std.specs.List.{list_all}
use Rattle.std.proofs.lemmas.Bool.Decides.{nat_tests}
use Rattle.std.proofs.lemmas.Fmt.{length-decimal-le}
use Rattle.bosh_types.specs.declared.terms.Terms.{Terms}
use Rattle.body_cutter.specs.BodyText.{IsText}
use Rattle.body_cutter.proofs.Leads.{both}
use Rattle.body_writer.proofs.Plain.{all_plain, decimal_plain, is_plain_byte, plain-append, plain_text}
use Rattle.server_ports.specs.Names.{IsNamePart, is_name_byte}
use Rattle.session_attrs.specs.Terms.{terms_of}
use Rattle.session_core.specs.Journal.{IsOpening}
use Rattle.session_table.specs.declared.opening.Opening.{Opening}
use Rattle.session_table.specs.Replies.{MayOpen, session_opening}
use Rattle.session_table.specs.Sids.{highest_number, sid_of}

plain_name_byte : (b : ℕ) → is_name_byte b ≡ true → is_plain_byte b ≡ true
plain_name_byte b is = grind (arith, nat_tests, is)

name_plain : (name : List ℕ) → list_all is_name_byte name ≡ true → all_plain name ≡ true
name_plain [] all = refl
name_plain (b ∷ bytes) all =
    let parts = both (is_name_byte b) (list_all is_name_byte bytes) all in
    and_true _ _ (plain_name_byte b parts.0) (name_plain bytes parts.1)
  where
    and_true : (p q : Bool) → p ≡ true → q ≡ true → (p && q) ≡ true
    and_true true q yes_ yes'_ = yes'_
    and_true false q yes_ yes'_ = yes_

sid_text : (name : List ℕ) (number : ℕ) → IsNamePart name → number ≤ highest_number → IsText (sid_of name number) × (1 ≤ length (sid_of name number)) × (length (sid_of name number) ≤ 64)
sid_text name number is few = (
  plain_text (sid_of name number) (plain-append name (decimal number) (name_plain name is.allowed) (decimal_plain number (omega arith))),
  omega (arith, length-append name (decimal number), is.some),
  omega (arith, length-append name (decimal number), is.few, length-decimal-le 19 number (omega arith) (omega arith) (omega arith)),
)

gap_within : (waits : ℕ) → (1 ≤ min (max waits 1) 10) × (min (max waits 1) 10 ≤ 10)
gap_within waits = (grind (arith, nat_tests), grind (arith, nat_tests))

-- the session is opened under its name
pub may_open : (o : Opening) (number : ℕ) (sid : List ℕ) (terms : Terms) (may : MayOpen o) → number ≤ highest_number
    → terms ≡ terms_of may.creation.0 → sid ≡ sid_of o.name number → IsOpening (session_opening sid terms o)
may_open o number sid terms may few terms_is sid_is =
    subst (λ s. IsOpening (session_opening s terms o)) (sym sid_is) (record {
      read = may.read;
      creation = (may.creation.0, may.creation.1, terms_is);
      sid = sid_text o.name number may.name few;
      host = may.host;
      gap = gap_within o.limits.gap_waits;
      greeting = may.greeting;
    })
