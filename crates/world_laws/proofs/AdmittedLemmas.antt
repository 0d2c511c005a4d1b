-- No request of a client is refused: each body gives a request, and the creation is for the world's host.
use Rattle.std.proofs.Common.{◌≡◌, ℕ, suc, ◌≤◌, ◌==◌, Bool, false, cond, List, [], ◌∷◌, length, ◌∙◌, ap, arith}
use Rattle.std.specs.Prelude.{nat_lt, None, Some, option_and_then}
use Rattle.std.specs.List.{position_or_len}
use Rattle.std.specs.Str.{bytes_eq}
use Rattle.std.proofs.lemmas.Bool.Decides.{nat_tests}
use Rattle.std.proofs.lemmas.List.Sums.{position_or_len_is}
use Rattle.std.proofs.lemmas.Slice.Eq.{bytes_eq-Decides}
use Rattle.body_cutter.specs.declared.parts.Cut.{Cut}
use Rattle.bosh_types.specs.declared.hosts.HostName.{HostName}
use Rattle.session_attrs.specs.declared.admission.Admitted.TheVariants as admitted
use Rattle.session_attrs.specs.declared.request.Request.{Request}
use Rattle.session_attrs.specs.Admission.{admitted_of, host_at}
use Rattle.session_attrs.specs.Reading.{request_of}
use Rattle.session_attrs.specs.Values.{values_of}
use Rattle.session_core.specs.Journal.{IsReadFrom}
use Rattle.session_journal.specs.Entries.{request_in, unrefused}

-- what is read from a body is what the body gives
pub read_given : (body : List ℕ) (request : Request) → IsReadFrom body request → request_in body ≡ Some request
read_given body request read =
    ap (λ r. option_and_then (λ (cut : Cut). unrefused (request_of (values_of body cut.attrs) cut.children)) (unrefused r)) read.1 ∙ ap unrefused read.2

not_zero : (n : ℕ) → (suc n == 0) ≡ false
not_zero n = grind (arith, nat_tests)

-- a name that isn't empty is that of the one host that has it
pub admitted_here : (name host : List ℕ) (greeting : List (List ℕ)) → 1 ≤ length name → host ≡ name
    → admitted_of (Some name) (record { name = host; greeting = greeting } ∷ []) ≡ admitted.Host 0
admitted_here [] host greeting some same = absurd (omega arith)
admitted_here (byte ∷ name) host greeting some same =
    let here : HostName = record { name = host; greeting = greeting } in
    let names : HostName → Bool = λ h. bytes_eq h.name (byte ∷ name) in
    let first : position_or_len names (here ∷ []) ≡ 0 =
    position_or_len_is names (here ∷ []) 0 here (omega arith) (λ k low. absurd (omega (arith, low))) (λ within. (bytes_eq-Decides host (byte ∷ name)).1 same) in
    ap (λ (b : Bool). cond b admitted.Improper (host_at (cond (nat_lt (position_or_len names (here ∷ [])) 1) (Some (position_or_len names (here ∷ []))) None))) (not_zero (length name))
    ∙ ap (λ (n : ℕ). host_at (cond (nat_lt n 1) (Some n) None)) first
