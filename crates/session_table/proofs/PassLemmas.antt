-- What a pass of the directory knows after a call or a question, and what a call was replied.
use Rattle.std.proofs.Common.{◌≡◌, ℕ, Bool, true, false, cond, List, [], ◌∷◌, ◌++◌, length, Option, Some, None, refl, sym, ◌∙◌, ap, subst, append_assoc}
use Rattle.std.specs.Prelude.{Result, Ok, Err, bytes_eq}
use Rattle.std.specs.Option.{option_to_list}
use Rattle.std.specs.declared.alloc.AllocError.{AllocError}
use Rattle.std.proofs.lemmas.List.{append-nil}
use Rattle.std.proofs.lemmas.Slice.Eq.{bytes_eq-Decides}
use Rattle.parked_gate.specs.Histories.{Appends, StartsWith}
use Rattle.parked_gate.specs.Passes.{Calls, Grows, Known, Looks}
use Rattle.session_table.specs.declared.calls.DirectoryCall.TheVariants as calls
use Rattle.session_table.specs.declared.calls.DirectoryReply.{DirectoryReply}
use Rattle.session_table.specs.declared.calls.DirectoryReply.TheVariants as replies
use Rattle.session_table.specs.declared.entry.Entry.{Entry}
use Rattle.session_table.specs.declared.handle.SessionHandle.{SessionHandle}
use Rattle.session_table.specs.History.{live_at, live_of}
use Rattle.session_table.specs.Purses.{Holds, Sessions, found_of, held}
use Rattle.session_table.specs.Replies.{Finds, RepliesTo}
use Rattle.session_table.specs.Sessions.{OpenedSession, named}

-- ---- what a pass knows

-- who knows what was said knows what follows from it
pub says_so : (P Q : List Entry → Option Entry → Type 0) (old new : Known Entry) → ((before : List Entry) → (made : Option Entry) → P before made → Q before made)
    → Calls (λ e. e.caller) P old new → Calls (λ e. e.caller) Q old new
says_so P Q old new follows called = record {
  before = called.before;
  made = called.made;
  begins = called.begins;
  says = follows called.before called.made called.says;
  seen = called.seen;
  mine = called.mine;
  earlier = called.earlier;
  learnt = called.learnt;
}

pub stays : (k : Known Entry) → Grows k k
stays k = record {
  number = refl;
  begins = ([], sym (append-nil k.seen));
  mine = refl;
  earlier = [];
  learnt = sym (append-nil k.learnt);
}

pub grows_by_look : (P : List Entry → Type 0) (old new : Known Entry) → new.number ≡ old.number → Looks P old new → Grows old new
grows_by_look P old new number looked = record {
  number = number;
  begins = looked.begins;
  mine = looked.mine;
  earlier = looked.earlier ++ length new.seen ∷ [];
  learnt = looked.learnt ∙ append_assoc old.learnt looked.earlier (length new.seen ∷ []);
}

-- a call that entered nothing
pub grows_by_call : (P : List Entry → Option Entry → Type 0) (old new : Known Entry) → new.number ≡ old.number
    → ((before : List Entry) → (made : Option Entry) → P before made → made ≡ None) → Calls (λ e. e.caller) P old new → Grows old new
grows_by_call P old new number enters_nothing called =
    let none : called.made ≡ None = enters_nothing called.before called.made called.says in
    let seen : new.seen ≡ called.before = subst (λ m. Appends (λ e. e.caller) old.number called.before m new.seen) none called.seen in
    record {
      number = number;
      begins = subst (λ l. StartsWith l old.seen) (sym seen) called.begins;
      mine = called.mine ∙ (ap (λ m. old.mine ++ option_to_list m) none ∙ append-nil old.mine);
      earlier = called.earlier ++ length called.before ∷ [];
      learnt = called.learnt ∙ append_assoc old.learnt called.earlier (length called.before ∷ []);
    }

-- ---- what was replied

-- to look for a session enters nothing
pub enters_nothing : (log : List Entry) (sid : List ℕ) (result : Result DirectoryReply AllocError) (made : Option Entry) → RepliesTo log (calls.Find sid) result made → made ≡ None
enters_nothing log sid (Err error) made is = is
enters_nothing log sid (Ok (replies.Found x)) made is = is.0
enters_nothing log sid (Ok replies.Unknown) made is = is.0
enters_nothing log sid (Ok (replies.Opened x)) made is = absurd is
enters_nothing log sid (Ok replies.TableFull) made is = absurd is
enters_nothing log sid (Ok replies.OpeningsSpent) made is = absurd is
enters_nothing log sid (Ok replies.Removed) made is = absurd is

some_same : {X : Type 0} (x y : X) → Some x ≡ Some y → x ≡ y
some_same x y is = cc

none_some : {X : Type 0} (x : X) → None ≡ Some x → ⊥
none_some x is = cc

pub finds : (log : List Entry) (sid : List ℕ) (reply : DirectoryReply) (made : Option Entry) (x : SessionHandle) → found_of reply ≡ Some x
    → RepliesTo log (calls.Find sid) (Ok reply) made → Finds log sid x
finds log sid (replies.Found y) made x is said =
    subst (Finds log sid) (some_same y x is) said.1
finds log sid replies.Unknown made x is said = absurd (none_some x is)
finds log sid (replies.Opened y) made x is said = absurd said
finds log sid replies.TableFull made x is said = absurd said
finds log sid replies.OpeningsSpent made x is said = absurd said
finds log sid replies.Removed made x is said = absurd said

pub finds_nothing : (log : List Entry) (sid : List ℕ) (reply : DirectoryReply) (made : Option Entry) → found_of reply ≡ None
    → RepliesTo log (calls.Find sid) (Ok reply) made → (made ≡ None) × (live_at log sid ≡ None)
finds_nothing log sid (replies.Found x) made is said = absurd (none_some x (sym is))
finds_nothing log sid replies.Unknown made is said = said
finds_nothing log sid (replies.Opened x) made is said = absurd said
finds_nothing log sid replies.TableFull made is said = absurd said
finds_nothing log sid replies.OpeningsSpent made is said = absurd said
finds_nothing log sid replies.Removed made is said = absurd said

-- who is found by a name has it
named_so : (sid : List ℕ) (ss : List OpenedSession) (x : OpenedSession) → named sid ss ≡ Some x → x.sid ≡ sid
named_so sid [] x is = absurd (cc)
named_so sid (s ∷ ss) x is = by (bytes_eq s.sid sid) refl is (λ later. named_so sid ss x later)
  where
    by : (b : Bool) → bytes_eq s.sid sid ≡ b → cond b (Some s) (named sid ss) ≡ Some x → (named sid ss ≡ Some x → x.sid ≡ sid) → x.sid ≡ sid
    by true same found later =
        let it : s ≡ x = cc in
        ap (λ (y : OpenedSession). y.sid) (sym it) ∙ (bytes_eq-Decides s.sid sid).0 same
    by false other found later = later found

pub found_by_name : (log : List Entry) (sid : List ℕ) (x : SessionHandle) → Finds log sid x → x.sid ≡ sid
found_by_name log sid x found = named_so sid (live_of log) _ found.live

-- and is held
pub holds_found : (log : List Entry) (sid text : List ℕ) (reply : DirectoryReply) (made : Option Entry) (x : SessionHandle) (sessions : Sessions) (number : ℕ)
    → found_of reply ≡ Some x → RepliesTo log (calls.Find text) (Ok reply) made → text ≡ sid → number ≡ x.number → held sessions x.number ≡ Some x → Holds sessions number sid
holds_found log sid text reply made x sessions number is said same numbered holds = record {
  handle = x;
  is = subst (λ n. held sessions n ≡ Some x) (sym numbered) holds;
  named = found_by_name log text x (finds log text reply made x is said) ∙ same;
}
