-- Text that may stand in XML, and hosts at which sessions can be opened.
use Rattle.std.proofs.Common.{◌≡◌, ◌≤◌, ℕ, Bool, true, false, List, length, refl, if◌then◌else◌}
use Rattle.std.specs.Prelude.{nat_le, IsTrue, chars, sum_by}
use Rattle.std.specs.List.{list_all}
use Rattle.std.specs.Str.{is_utf8}
use Rattle.std.proofs.lemmas.Bool.{leb-true}
use Rattle.std.proofs.lemmas.Str.{IsUtf8-from_is_utf8, encodes-chars}
use Rattle.bosh_types.specs.Limits.{longest_stanza, most_waiting}
use Rattle.body_cutter.specs.BodyText.{IsText}
use Rattle.body_cutter.specs.Chars.{is_allowed}
use Rattle.body_cutter.specs.Cutting.{is_stanza}
use Rattle.body_cutter.specs.Utf8.{IsUtf8Of}
use Rattle.body_cutter.proofs.Leads.{both}
use Rattle.body_cutter.proofs.Utf8Allowed.{allowed_is}
use Rattle.session_attrs.specs.Serving.{is_allowed_text, is_host_name, may_greet}

-- the text spells characters that are allowed
pub allowed_text : (bytes : List ℕ) → is_allowed_text bytes ≡ true → IsText bytes × IsUtf8Of is_allowed bytes
allowed_text bytes is = by (is_utf8 bytes) refl is
  where
    by : (b : Bool) → is_utf8 bytes ≡ b → (if b then list_all is_allowed (chars bytes) else false) ≡ true → IsText bytes × IsUtf8Of is_allowed bytes
    by false utf8 none = absurd (cc)
    by true utf8 all =
        let text = IsUtf8-from_is_utf8 bytes utf8 in
        let spelt : IsUtf8Of is_allowed bytes = record { characters = chars bytes; pass = all; spell = encodes-chars bytes text } in
        ((text, (allowed_is bytes spelt).0), spelt)

-- the name of a host may stand in an answer
pub host_text : (name : List ℕ) → is_host_name name ≡ true → IsText name × (1 ≤ length name) × (length name ≤ 1023)
unfolding is_host_name
host_text name is =
    let all = both _ (is_allowed_text name) is in
    let sizes = both (nat_le 1 (length name)) (nat_le (length name) 1023) all.0 in
    ((allowed_text name all.1).0, leb-true 1 (length name) sizes.0, leb-true (length name) 1023 sizes.1)

-- a greeting is stanzas that one answer may take
pub greeting_parts : (greeting : List (List ℕ)) → may_greet greeting ≡ true
    → IsTrue (list_all is_stanza greeting) × (length greeting ≤ most_waiting) × (sum_by (λ stanza. length stanza) greeting ≤ longest_stanza)
unfolding may_greet
greeting_parts greeting may =
    let all = both (list_all is_stanza greeting) _ may in
    let sizes = both (nat_le (length greeting) most_waiting) _ all.1 in
    (all.0, leb-true (length greeting) most_waiting sizes.0, leb-true _ longest_stanza sizes.1)
