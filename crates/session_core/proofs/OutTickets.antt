-- The tickets that are out, as they are looked for and taken away.
use Rattle.std.proofs.Common.{◌≡◌, ℕ, zero, suc, ◌<◌, ◌==◌, not, cond, List, [], ◌∷◌, length, set, get_or, refl, sym, ◌∙◌, ap, arith}
use Rattle.std.proofs.lemmas.Bool.Decides.{nat_tests}
use Rattle.session_core.specs.declared.tickets.OpenTicket.{OpenTicket}
use Rattle.session_core.specs.Tickets.{without}

skipped : (number n : ℕ) (rest : List OpenTicket) (ticket : OpenTicket) → n ≡ number → cond (not (n == number)) (ticket ∷ rest) rest ≡ rest
skipped number n rest ticket same = grind (arith, nat_tests)

-- a read within a list has the item, whatever stands for none
pub same_read : (tickets : List OpenTicket) (index : ℕ) (a b : OpenTicket) → index < length tickets → get_or tickets index a ≡ get_or tickets index b
same_read [] index a b within = absurd (omega arith)
same_read (ticket ∷ tickets) zero a b within = refl
same_read (ticket ∷ tickets) (suc index) a b within = same_read tickets index a b (omega arith)

-- what a ticket became plays no part once it is taken away
pub without_set : (number index : ℕ) (tickets : List OpenTicket) (was new : OpenTicket) → index < length tickets → (get_or tickets index was).number ≡ number → new.number ≡ number → without number (set tickets index new) ≡ without number tickets
without_set number index [] was new within old same = absurd (omega arith)
without_set number zero (ticket ∷ tickets) was new within old same =
    skipped number new.number (without number tickets) new same ∙ sym (skipped number ticket.number (without number tickets) ticket old)
without_set number (suc index) (ticket ∷ tickets) was new within old same =
    let rest = without_set number index tickets was new (omega arith) old same in
    ap (λ xs. cond (not (ticket.number == number)) (ticket ∷ xs) xs) rest
