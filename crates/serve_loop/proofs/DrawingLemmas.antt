-- What a worker draws, and what it opens.
use Rattle.std.proofs.Common.{◌≡◌, ℕ, List, [], ◌∷◌, ◌++◌, Option, Some, None, ◌⊎◌, refl, sym, ◌∙◌, ap, subst, append_assoc, append-nil, inl, inr}
use Rattle.std.specs.Prelude.{Contains}
use Rattle.std.specs.Option.{option_to_list}
use Rattle.parked_gate.specs.Histories.{Appends}
use Rattle.parked_gate.specs.Passes.{Calls, Grows, Known, known}
use Rattle.session_table.specs.declared.calls.NewSession.{NewSession}
use Rattle.session_table.specs.declared.calls.NewSession.TheVariants as news
use Rattle.session_table.specs.declared.entry.Entry as table
use Rattle.session_table.specs.declared.opening.Opening.{Opening}
use Rattle.session_table.specs.declared.purse.Purse.{Purse}
use Rattle.session_table.specs.History.{openings_of}
use Rattle.session_table.specs.Keeping.{session_of}
use Rattle.session_table.specs.Purses.{OpensInto, OpensOrNot, Sessions}
use Rattle.session_table.specs.Sids.{sid_of}
use Rattle.session_table.proofs.LawLemmas.{opened_last, opened_on}
use Rattle.serve_loop.specs.Drawing.{AreOpenedAs, IsOpenedAs, OpensAsDrawn}
use Rattle.serve_loop.proofs.EffectLemmas.{starts_after, starts_on}
use Rattle.serve_loop.proofs.TellingLemmas.{calls_as, seen_one}

-- ---- one after the other

none_opened : (log : List table.Entry) (names : List (List ℕ)) → AreOpenedAs log names []
none_opened log [] = tt
none_opened log (name ∷ names) = tt

left_out : (log : List table.Entry) (name : List ℕ) (names : List (List ℕ)) (entries : List table.Entry) → AreOpenedAs log names entries → AreOpenedAs log (name ∷ names) entries
left_out log name names [] named = tt
left_out log name names (e ∷ entries) named = inr named

later_log : (log more : List table.Entry) (names : List (List ℕ)) (entries : List table.Entry) → AreOpenedAs log names entries → AreOpenedAs (log ++ more) names entries
later_log log more [] [] named = tt
later_log log more [] (e ∷ entries) named = absurd named
later_log log more (name ∷ names) [] named = tt
later_log log more (name ∷ names) (e ∷ entries) (inl (is, rest)) =
    inl (record { session = is.session; there = opened_on log more is.session is.there; tells = is.tells; named = is.named }, later_log log more names entries rest)
later_log log more (name ∷ names) (e ∷ entries) (inr rest) = inr (later_log log more names (e ∷ entries) rest)

append_named : (log : List table.Entry) (names more : List (List ℕ)) (entries further : List table.Entry) → AreOpenedAs log names entries → AreOpenedAs log more further
    → AreOpenedAs log (names ++ more) (entries ++ further)
append_named log [] more [] further named later = later
append_named log [] more (e ∷ entries) further named later = absurd named
append_named log (name ∷ names) more [] further named later = left_out log name (names ++ more) further (append_named log names more [] further (none_opened log names) later)
append_named log (name ∷ names) more (e ∷ entries) further (inl (is, rest)) later = inl (is, append_named log names more entries further rest later)
append_named log (name ∷ names) more (e ∷ entries) further (inr rest) later = inr (append_named log names more (e ∷ entries) further rest later)

list_on : {A : Type 0} (xs ys zs more rest : List A) → ys ≡ xs ++ more → zs ≡ ys ++ rest → zs ≡ xs ++ (more ++ rest)
list_on xs ys zs more rest first later = later ∙ (ap (λ l. l ++ rest) first ∙ append_assoc xs more rest)

pub draws_on : (a b c : List (List ℕ)) (k l m : Known table.Entry) → OpensAsDrawn a b k l → OpensAsDrawn b c l m → OpensAsDrawn a c k m
draws_on a b c k l m first later = record {
  names = first.names ++ later.names;
  drew = list_on a b c first.names later.names first.drew later.drew;
  begins = starts_on k.seen l.seen m.seen first.begins later.begins;
  entries = first.entries ++ later.entries;
  entered = list_on k.mine l.mine m.mine first.entries later.entries first.entered later.entered;
  named = append_named m.seen first.names later.names first.entries later.entries
      (subst (λ log. AreOpenedAs log first.names first.entries) (sym later.begins.1) (later_log l.seen later.begins.0 first.names first.entries first.named)) later.named;
}

-- ---- nothing was opened

pub draws_none : (names names' : List (List ℕ)) (old new : Known table.Entry) → names' ≡ names → Grows old new → OpensAsDrawn names names' old new
draws_none names names' old new same grows = record {
  names = [];
  drew = same ∙ sym (append-nil names);
  begins = grows.begins;
  entries = [];
  entered = grows.mine ∙ sym (append-nil old.mine);
  named = tt;
}

pub draws_still : (names : List (List ℕ)) (k : Known table.Entry) → OpensAsDrawn names names k k
draws_still names k = record { names = []; drew = sym (append-nil names); begins = ([], sym (append-nil k.seen)); entries = []; entered = sym (append-nil k.mine); named = tt }

-- the directory wasn't called
pub draws_beside : (names : List (List ℕ)) (old new : Purse) → new.directory ≡ old.directory → OpensAsDrawn names names (known old.directory) (known new.directory)
draws_beside names old new same = subst (λ p. OpensAsDrawn names names (known old.directory) (known p)) (sym same) (draws_still names (known old.directory))

-- a name was drawn for nothing
pub draws_unused : (names names' : List (List ℕ)) (name : List ℕ) (k : Known table.Entry) → names' ≡ names ++ name ∷ [] → OpensAsDrawn names names' k k
draws_unused names names' name k drew = record {
  names = name ∷ [];
  drew = drew;
  begins = ([], sym (append-nil k.seen));
  entries = [];
  entered = sym (append-nil k.mine);
  named = tt;
}

-- ---- a session was opened, or none

opens_as : (caller : ℕ) (log after : List table.Entry) (o : Opening) (name : List ℕ) (made : Option table.Entry) → o.name ≡ name → OpensOrNot log o made
    → Appends (λ e. e.caller) caller log made after → AreOpenedAs after (name ∷ []) (option_to_list made)
opens_as caller log after o name made same (inl none) appends = subst (λ m. AreOpenedAs after (name ∷ []) (option_to_list m)) (sym none) tt
opens_as caller log after o name made same (inr (x, opens)) appends =
    subst (λ m. AreOpenedAs after (name ∷ []) (option_to_list m)) (sym opens.entered) (inl (as_told, tt))
  where
    seen : after ≡ log ++ opens.entry ∷ []
    seen = (seen_one (λ (e : table.Entry). e.caller) caller log after made opens.entry opens.entered appends).0

    as_told : IsOpenedAs after name opens.entry
    as_told = record {
      session = session_of x.session;
      there = subst (λ (l : List table.Entry). Contains (openings_of l) (session_of x.session)) (sym seen) (opened_last log opens.entry (session_of x.session) opens.tells opens.starts.number_is);
      tells = opens.tells;
      named = opens.starts.sid ∙ (ap (sid_of o.name) (sym opens.starts.number_is) ∙ ap (λ n. sid_of n x.session.number) same);
    }

pub draws_one : (names names' : List (List ℕ)) (name : List ℕ) (o : Opening) (old new : Known table.Entry) → names' ≡ names ++ name ∷ [] → o.name ≡ name
    → Calls (λ e. e.caller) (λ log made. OpensOrNot log o made) old new → OpensAsDrawn names names' old new
draws_one names names' name o old new drew same call = record {
  names = name ∷ [];
  drew = drew;
  begins = starts_after (λ (e : table.Entry). e.caller) old.number old.seen call.before new.seen call.made call.begins call.seen;
  entries = option_to_list call.made;
  entered = call.mine;
  named = opens_as old.number call.before new.seen o name call.made same call.says call.seen;
}

into_or_not : (log : List table.Entry) (o : Opening) (came : NewSession) (sessions : Sessions) (made : Option table.Entry) → OpensInto log o came sessions made → OpensOrNot log o made
into_or_not log o (news.Opened number answer) sessions made opens = inr (record { session = opens.0; answer = answer }, opens.2)
into_or_not log o news.TableFull sessions made full = inl full.0
into_or_not log o news.OpeningsSpent sessions made spent = inl spent.0

-- and what came of it is known
pub draws_told : (names names' : List (List ℕ)) (name : List ℕ) (o : Opening) (came : NewSession) (sessions : Sessions) (old new : Known table.Entry) → names' ≡ names ++ name ∷ [] → o.name ≡ name
    → Calls (λ e. e.caller) (λ log made. OpensInto log o came sessions made) old new → OpensAsDrawn names names' old new
draws_told names names' name o came sessions old new drew same call =
    draws_one names names' name o old new drew same
    (calls_as (λ e. e.caller) (λ log made. OpensInto log o came sessions made) (λ log made. OpensOrNot log o made) old new (λ log made says. into_or_not log o came sessions made says) call)
