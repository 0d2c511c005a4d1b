-- A session that is called, and called again.
use Rattle.std.proofs.Common.{◌≡◌, ℕ, Option, Some, None, refl, sym, subst, ◌∙◌, true≢false}
use Rattle.std.specs.Prelude.{IsSome}
use Rattle.parked_gate.specs.Passes.{Known, known}
use Rattle.session_journal.specs.declared.entry.Entry as journal
use Rattle.session_table.specs.declared.handle.SessionHandle.{SessionHandle}
use Rattle.session_table.specs.Handles.{IsOfSame}
use Rattle.session_table.specs.Purses.{Sessions, Turned, held}

pub some_same : {X : Type 0} (x y : X) → Some x ≡ Some y → x ≡ y
some_same x y is = cc

handle_of : (o : Option SessionHandle) → IsSome o → (x : SessionHandle) × (o ≡ Some x)
handle_of (Some x) some = (x, refl)
handle_of None some = absurd (true≢false (sym some))

-- nothing was called
pub turned_none : (number : ℕ) (s : Sessions) (P : Known journal.Entry → Known journal.Entry → Type 0) → IsSome (held s number)
    → ((k : Known journal.Entry) → P k k) → Turned number s s P
turned_none number s P some same =
    let x = handle_of (held s number) some in
    record {
      before = x.0;
      after = x.0;
      was = x.1;
      is = x.1;
      of_same = record { sid = refl; number = refl; gate = refl };
      pass_number = refl;
      says = same (known x.0.pass);
    }

-- what was called is called again
pub turned_then : (number : ℕ) (a b c : Sessions) (P Q R : Known journal.Entry → Known journal.Entry → Type 0)
    → ((k l m : Known journal.Entry) → P k l → Q l m → R k m) → Turned number a b P → Turned number b c Q → Turned number a c R
turned_then number a b c P Q R by first second =
    let same : second.before ≡ first.after = some_same second.before first.after (sym second.was ∙ first.is) in
    let of_same : IsOfSame first.after second.after = subst (λ (x : SessionHandle). IsOfSame x second.after) same second.of_same in
    record {
      before = first.before;
      after = second.after;
      was = first.was;
      is = second.is;
      of_same = record {
        sid = of_same.sid ∙ first.of_same.sid;
        number = of_same.number ∙ first.of_same.number;
        gate = of_same.gate ∙ first.of_same.gate;
      };
      pass_number = subst (λ (x : SessionHandle). (known second.after.pass).number ≡ (known x.pass).number) same second.pass_number ∙ first.pass_number;
      says = by (known first.before.pass) (known first.after.pass) (known second.after.pass) first.says
          (subst (λ (x : SessionHandle). Q (known x.pass) (known second.after.pass)) same second.says);
    }

-- it is said otherwise
pub turned_as : (number : ℕ) (a b : Sessions) (P Q : Known journal.Entry → Known journal.Entry → Type 0)
    → ((k l : Known journal.Entry) → P k l → Q k l) → Turned number a b P → Turned number a b Q
turned_as number a b P Q by turned = record {
  before = turned.before;
  after = turned.after;
  was = turned.was;
  is = turned.is;
  of_same = turned.of_same;
  pass_number = turned.pass_number;
  says = by (known turned.before.pass) (known turned.after.pass) turned.says;
}

-- a session that was called is held
pub still_held : (number : ℕ) (a b : Sessions) (P : Known journal.Entry → Known journal.Entry → Type 0) → Turned number a b P → IsSome (held b number)
still_held number a b P turned = subst IsSome (sym turned.is) refl
