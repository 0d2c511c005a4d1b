-- The names of the sessions that lines opened.
use Rattle.std.proofs.Common.{◌≡◌, ◌⊎◌, ◌+◌, ℕ, List, [], ◌∷◌, ◌++◌, Option, Some, None, refl, sym, ◌∙◌, ap, subst, inl, inr, cond}
use Rattle.std.specs.List.{cons_option, filter_map}
use Rattle.parked_gate.specs.Passes.{GateId, Known}
use Rattle.session_table.specs.declared.entry.Entry.{Entry}
use Rattle.session_table.specs.declared.opening.Limits.{Limits}
use Rattle.session_table.specs.History.{IsLegal, opening_in, openings_of}
use Rattle.session_table.specs.Sessions.{OpenedSession, numbered_from}
use Rattle.session_table.specs.Sids.{IsSidOf}
use Rattle.serve_loop.specs.declared.trail.Traced.{Traced}
use Rattle.trail_laws.specs.Naming.{IsNamed, NamesEach}
use Rattle.trail_laws.specs.Seeing.{HasOpening}
use Rattle.trail_laws.specs.Told.{Has, opened_in}
use Rattle.trail_laws.proofs.ChainLemmas.{Chain, chain_opens}
use Rattle.trail_laws.proofs.ListLemmas.{has_all}

-- an opening that is entered is numbered among all
in_openings : (log : List Entry) (e : Entry) (session : List ℕ × GateId) → Has log e → opening_in e ≡ Some session → Has (filter_map opening_in log) session
in_openings [] e session is opens = absurd is
in_openings (x ∷ xs) e session (inl here) opens =
    subst (λ o. Has (cons_option o (filter_map opening_in xs)) session) (sym (ap opening_in here ∙ opens)) (inl refl)
in_openings (x ∷ xs) e session (inr there) opens = by (opening_in x) (in_openings xs e session there opens)
  where
    by : (o : Option (List ℕ × GateId)) → Has (filter_map opening_in xs) session → Has (cons_option o (filter_map opening_in xs)) session
    by None later = later
    by (Some y) later = inr later

in_numbered : (n : ℕ) (xs : List (List ℕ × GateId)) (session : List ℕ × GateId) → Has xs session
    → (opened : OpenedSession) × Has (numbered_from n xs) opened × ((opened.sid, opened.gate) ≡ session)
in_numbered n [] session is = absurd is
in_numbered n (x ∷ xs) session (inl here) = (record { sid = x.0; number = n; gate = x.1 }, inl refl, here)
in_numbered n (x ∷ xs) session (inr there) =
    let found : (opened : OpenedSession) × Has (numbered_from (n + 1) xs) opened × ((opened.sid, opened.gate) ≡ session) = in_numbered (n + 1) xs session there in
    (found.0, inr found.1, found.2)

named : (log mine : List Entry) (session : List ℕ × GateId) → IsLegal log → HasOpening log mine session → IsNamed log session
named log mine session legal has =
    let found : (opened : OpenedSession) × Has (openings_of log) opened × ((opened.sid, opened.gate) ≡ session) =
    in_numbered 1 (filter_map opening_in log) session (in_openings log has.entry session has.there has.tells) in
    record {
      opened = found.0;
      there = found.1;
      is = found.2;
      name = has_all (λ (s : OpenedSession). IsSidOf s.sid s.number) (openings_of log) found.0 legal.named found.1;
    }

pub chain_names : (limits : Limits) (k last : Known Entry) (ts : List Traced) → Chain limits k ts last → IsLegal last.seen → NamesEach ts last
chain_names limits k last ts chain legal t session there opened = named last.seen last.mine session legal (chain_opens limits k last ts chain t session there opened)
