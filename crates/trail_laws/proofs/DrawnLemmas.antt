-- The names of the sessions that lines opened are names that were drawn.
use Rattle.std.proofs.Common.{◌≡◌, ◌⊎◌, ℕ, List, [], ◌∷◌, Some, refl, sym, ◌∙◌, subst, inl, inr}
use Rattle.parked_gate.specs.Passes.{GateId, Known}
use Rattle.session_table.specs.declared.entry.Entry.{Entry}
use Rattle.session_table.specs.declared.opening.Limits.{Limits}
use Rattle.serve_loop.specs.declared.trail.Traced.{Traced}
use Rattle.serve_loop.specs.Drawing.{AreOpenedAs, IsOpenedAs, OpensAsDrawn}
use Rattle.trail_laws.specs.Drawing.{NamesAsDrawn}
use Rattle.trail_laws.specs.Told.{Has}
use Rattle.trail_laws.proofs.ChainLemmas.{Chain, chain_enters}

some_same : {A : Type 0} (x y : A) → Some x ≡ Some y → x ≡ y
some_same x y same = cc

-- each of the entries is of one of the names
name_of : (log : List Entry) (names : List (List ℕ)) (entries : List Entry) (e : Entry) → AreOpenedAs log names entries → Has entries e → (name : List ℕ) × Has names name × IsOpenedAs log name e
name_of log [] [] e named there = absurd there
name_of log [] (x ∷ xs) e named there = absurd named
name_of log (n ∷ ns) [] e named there = absurd there
name_of log (n ∷ ns) (x ∷ xs) e (inr rest) there =
    let found : (name : List ℕ) × Has ns name × IsOpenedAs log name e = name_of log ns (x ∷ xs) e rest there in
    (found.0, inr found.1, found.2)
name_of log (n ∷ ns) (x ∷ xs) e (inl (is, rest)) (inl here) = (n, inl refl, subst (IsOpenedAs log n) here is)
name_of log (n ∷ ns) (x ∷ xs) e (inl (is, rest)) (inr later) =
    let found : (name : List ℕ) × Has ns name × IsOpenedAs log name e = name_of log ns xs e rest later in
    (found.0, inr found.1, found.2)

pub chain_drawn : (limits : Limits) (k last : Known Entry) (ts : List Traced) → Chain limits k ts last → (old new : List (List ℕ)) (drew : OpensAsDrawn old new k last) → NamesAsDrawn drew.names ts last
chain_drawn limits k last ts chain old new drew t session there is =
    let entered = chain_enters limits k last ts chain t session there is drew.entries drew.entered in
    let found : (name : List ℕ) × Has drew.names name × IsOpenedAs last.seen name entered.0 = name_of last.seen drew.names drew.entries entered.0 drew.named entered.1 in
    record {
      name = found.0;
      drawn = found.1;
      opened = found.2.session;
      there = found.2.there;
      is = some_same (found.2.session.sid, found.2.session.gate) session (sym found.2.tells ∙ entered.2);
      named = found.2.named;
    }
