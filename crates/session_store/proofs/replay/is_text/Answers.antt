use Rattle.std.proofs.Common.{◌≡◌, ℕ, List, Bool, true, false, refl, sym, ◌∙◌, ap, if◌then◌else◌}
use Rattle.std.specs.List.{list_all}
use Rattle.std.specs.Prelude.{chars}
use Rattle.std.specs.Str.{is_utf8}
use Rattle.std.proofs.lemmas.Str.{IsUtf8-from_is_utf8, is_utf8-from_IsUtf8}
use Rattle.body_cutter.specs.Utf8.{is_tabled}
use Rattle.session_store.proofs.replay.is_text.Goals as goal

never : (b : Bool) → (b ≡ true → ⊥) → b ≡ false
never true impossible = absurd (impossible refl)
never false impossible = refl

pub returns-in-Ok : goal.returns-in-Ok
returns-in-Ok c =
    c.is_all_tabled.ensures
    ∙ ap (λ (text : List ℕ). list_all is_tabled (chars text)) c.in-Ok.ensures.cases.0
    ∙ ap (λ known. if known then list_all is_tabled (chars c.args.bytes.now) else false) (sym (is_utf8-from_IsUtf8 c.args.bytes.now c.in-Ok.ensures.cases.1))

pub returns-in-Err : goal.returns-in-Err
returns-in-Err c =
    ap (λ known. if known then list_all is_tabled (chars c.args.bytes.now) else false)
    (sym (never (is_utf8 c.args.bytes.now) (λ is. c.in-Err.ensures.cases.0 (IsUtf8-from_is_utf8 c.args.bytes.now is))))
