-- What time strikes, and what it makes of placings and tickets.
use Rattle.std.proofs.Common.{◌≡◌, ℕ, List, [], ◌∷◌, ◌++◌, map, length, not, ◌&&◌, refl, sym, ◌∙◌, ap, append_assoc}
use Rattle.std.proofs.lemmas.List.{append-nil, length-map}
use Rattle.session_core.specs.Answers.{settled}
use Rattle.session_core.specs.Gap.{ids_to_strike, strike, strike_each, strike_ticket, struck}
use Rattle.session_core.specs.Placed.{struck_tickets}
use Rattle.session_core.specs.State.{PlainSession, Issued, Strikes, is_over}
use Rattle.session_core.specs.Time.{at_moment, is_silent, silenced, time_applied}
use Rattle.session_laws.proofs.Frames.{settled_leaves, struck_leaves}
use Rattle.session_laws.proofs.Tests.{split}

-- the ids that time strikes at a moment
abbrev pub strikes_of : PlainSession → ℕ → List ℕ
strikes_of s now = ids_to_strike (settled (at_moment s now))

each_placings : (rids : List ℕ) (s : PlainSession) → (strike_each rids s).placings ≡ s.placings ++ map (λ rid. Strikes rid s.now) rids
each_placings [] s = sym (append-nil s.placings)
each_placings (rid ∷ rids) s = each_placings rids (strike s rid) ∙ append_assoc s.placings (Strikes rid s.now ∷ []) (map (λ r. Strikes r s.now) rids)

each_tickets : (rids : List ℕ) (s : PlainSession) → (strike_each rids s).tickets ≡ struck_tickets rids s.tickets
each_tickets [] s = refl
each_tickets (rid ∷ rids) s = each_tickets rids (strike s rid)

-- silence ends a session, and no more
pub silenced_leaves : (s : PlainSession) → silenced s ≡ record s { ending = (silenced s).ending }
silenced_leaves s = split (λ (t : PlainSession). t ≡ record s { ending = t.ending }) (not (is_over s) && is_silent s) _ s (λ silent. refl) (λ other. refl)

-- the moment once time was applied
pub time_now : (s : PlainSession) (now : ℕ) → (time_applied s now).now ≡ (at_moment s now).now
time_now s now =
    let u : PlainSession = settled (at_moment s now) in
    ap (λ (v : PlainSession). v.now) (silenced_leaves (struck u)) ∙ ap (λ (v : PlainSession). v.now) (struck_leaves u) ∙ ap (λ (v : PlainSession). v.now) (settled_leaves (at_moment s now))

pub time_placings : (s : PlainSession) (now : ℕ) → (time_applied s now).placings ≡ s.placings ++ map (λ rid. Strikes rid (time_applied s now).now) (strikes_of s now)
time_placings s now =
    let u : PlainSession = settled (at_moment s now) in
    let moment : u.now ≡ (time_applied s now).now = sym (ap (λ (v : PlainSession). v.now) (silenced_leaves (struck u)) ∙ ap (λ (v : PlainSession). v.now) (struck_leaves u)) in
    ap (λ (v : PlainSession). v.placings) (silenced_leaves (struck u)) ∙ each_placings (ids_to_strike u) u
    ∙ ap (λ (v : PlainSession). v.placings ++ map (λ rid. Strikes rid u.now) (ids_to_strike u)) (settled_leaves (at_moment s now))
    ∙ ap (λ (n : ℕ). s.placings ++ map (λ rid. Strikes rid n) (ids_to_strike u)) moment

pub time_tickets : (s : PlainSession) (now : ℕ) → (time_applied s now).tickets ≡ struck_tickets (strikes_of s now) s.tickets
time_tickets s now =
    let u : PlainSession = settled (at_moment s now) in
    ap (λ (v : PlainSession). v.tickets) (silenced_leaves (struck u)) ∙ each_tickets (ids_to_strike u) u
    ∙ ap (λ (v : PlainSession). struck_tickets (ids_to_strike u) v.tickets) (settled_leaves (at_moment s now))

pub struck_length : (rids : List ℕ) (tickets : List Issued) → length (struck_tickets rids tickets) ≡ length tickets
struck_length [] tickets = refl
struck_length (rid ∷ rids) tickets = struck_length rids (map (strike_ticket rid) tickets) ∙ length-map tickets (strike_ticket rid)
