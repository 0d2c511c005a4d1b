-- Why a worker ends.
use Rattle.std.proofs.Common.{◌≡◌, ℕ, Bool, true, false, ◌||◌, inl, inr, List, Some, None, refl, sym, ap, subst, arith}
use Rattle.std.specs.Prelude.{◌≢◌, Option, Result, Ok, Err, IfOk, not, nat_lt, is_some}
use Rattle.std.proofs.lemmas.Bool.Decides.{nat_tests}
use Rattle.std.specs.declared.alloc.AllocError.{AllocError}
use Rattle.bosh_client.specs.declared.replies.ClientEnd.{ClientEnd}
use Rattle.bosh_client.specs.declared.replies.Next.{Next}
use Rattle.bosh_client.specs.declared.replies.Next.TheVariants as nexts
use Rattle.bosh_client.specs.Machine.{is_due, next_request}
use Rattle.bosh_client.specs.PlainClient.{PlainClient, end_of, has_ended, next_id}
use Rattle.bosh_client.specs.Runs as plain
use Rattle.bosh_client.specs.Runs.{called, step}
use Rattle.bosh_client.proofs.RunLemmas.{by_if}
use Rattle.bosh_types.specs.Rid.{greatest_rid}
use Rattle.bosh_types.specs.declared.condition.Condition.{Condition}
use Rattle.parked_gate.specs.Histories.{Appends, StartsWith}
use Rattle.parked_gate.specs.Passes.{Known}
use Rattle.client_run.specs.declared.call.Call.TheVariants as calls
use Rattle.client_run.specs.declared.carrying.Halt.{Halt}
use Rattle.client_run.specs.declared.carrying.Halt.TheVariants as halts
use Rattle.client_run.specs.declared.entry.Entry.{Entry}
use Rattle.client_run.specs.declared.fault.Fault.{Fault}
use Rattle.client_run.specs.declared.fault.Fault.TheVariants.{Dial, Read, Write}
use Rattle.bosh_ports.specs.Faults.{HasRisen}
use Rattle.server_ports.specs.Counts.{Counts}
use Rattle.server_ports.specs.Events.{Event}
use Rattle.client_run.specs.declared.worked.Worked.{Worked}
use Rattle.client_run.specs.declared.worked.Worked.TheVariants as worked
use Rattle.client_run.specs.Asking.{AsksBy, LooksBy}
use Rattle.client_run.specs.History.{After, Enters}
use Rattle.client_run.specs.Worked.{EndsBy, IsDone, IsHalt, WasIdle, Works, ended_by, failed_by, halted_by, has_read, is_fault}
use Rattle.client_run.specs.Working.{Row, Setting, Side, side_of}
use Rattle.client_run.proofs.RiseLemmas.{row_other, row_risen, starts_later}

pub next_name : (done : PlainClient × Next) (next : Next) → plain.ToNext next ≡ (called plain.ToNext done).1 → next ≡ done.1
next_name (c, x) next is = ap (λ reply. elim reply [ plain.ToNext n ↦ n | plain.ToQueue q ↦ next | plain.ToAnswer a ↦ next | plain.ToHandOut p ↦ next ]) is

no_end : (o : Option ClientEnd) → is_some o ≡ false → o ≡ None
no_end None is = refl
no_end (Some end) is = absurd (cc)

neither : (a b : Bool) → (a || b) ≡ false → a ≡ false
neither true b is = absurd (cc)
neither false b is = refl

not_nothing : {X : Type 0} → nexts.RidsSpent ≡ nexts.Nothing → X
not_nothing is = absurd (cc)

no_request : {X : Type 0} (rid : ℕ) (body : List ℕ) → nexts.RidsSpent ≡ nexts.Request rid body → X
no_request rid body is = absurd (cc)

-- where no id is left the client goes on
spent : (c : PlainClient) (now : ℕ) → nexts.RidsSpent ≡ (next_request c now).1 → IsDone c
spent c now =
    by_if {X = PlainClient × Next} (λ p. nexts.RidsSpent ≡ p.1 → IsDone c) (has_ended c || not (is_due c now)) _ _ (λ ended is. not_nothing is)
    (λ due. by_if {X = PlainClient × Next} (λ p. nexts.RidsSpent ≡ p.1 → IsDone c) (nat_lt greatest_rid (next_id c)) _ _
    (λ high is. inr (no_end (end_of c) (neither (has_ended c) (not (is_due c now)) due), grind (arith, nat_tests, high)))
    (λ low is. no_request _ _ is))

-- nothing was entered where the client didn't change
stayed : (number : ℕ) (before after : List Entry) (made : Option Entry) (call : _) → Enters call false made → Appends (λ e. e.caller) number before made after → after ≡ before
stayed number before after None call enters is = is
stayed number before after (Some e) call enters is = absurd (cc)

pub ends_spent : (setting : Setting) (old new : Known Entry) (first : List Entry) → AsksBy setting old new (Ok nexts.RidsSpent) → After new.seen IsDone
ends_spent setting old new first asks =
    let c = asks.2 in
    let replied = c.says in
    subst (λ log. After log IsDone) (sym (stayed old.number c.before new.seen c.made (calls.Next asks.0) replied.enters c.seen))
    (record { plain = replied.plain; is = replied.is; holds = spent replied.plain asks.0 (next_name (next_request replied.plain asks.0) nexts.RidsSpent replied.reply_is) })

pub was_idle : (setting : Setting) (first : List Entry) (old mid new : Known Entry) (end : Option ClientEnd) → StartsWith old.seen first
    → AsksBy setting old mid (Ok nexts.Nothing) → LooksBy mid new end → WasIdle setting first new.seen
was_idle setting first old mid new end begins asks looks =
    let c = asks.2 in
    let replied = c.says in
    record {
      log = c.before;
      since = starts_later first old.seen c.before begins c.begins;
      until = subst (StartsWith new.seen) (stayed old.number c.before mid.seen c.made (calls.Next asks.0) replied.enters c.seen) looks.begins;
      idle = record { plain = replied.plain; is = replied.is; holds = (asks.0, asks.1, sym (next_name (next_request replied.plain asks.0) nexts.Nothing replied.reply_is)) };
    }

ends_as : (setting : Setting) (first last : List Entry) (row : Row) (condition : Option Condition) → After last (λ c. Some (record { condition = condition }) ≡ end_of c) → EndsBy setting first last row (ended_by condition)
ends_as setting first last row None after = record { plain = after.plain; is = after.is; holds = inl (sym after.holds) }
ends_as setting first last row (Some condition) after = record { plain = after.plain; is = after.is; holds = sym after.holds }

pub ends_ended : (setting : Setting) (first : List Entry) (old new : Known Entry) (row : Row) (end : ClientEnd) → LooksBy old new (Some end) → EndsBy setting first new.seen row (ended_by end.condition)
ends_ended setting first old new row end looks = ends_as setting first new.seen row end.condition looks.says

ends_failed : (setting : Setting) (first last : List Entry) (row : Row) (fault : Fault) → row.faults ≡ 3 → EndsBy setting first last row (failed_by fault)
ends_failed setting first last row Dial is = is
ends_failed setting first last row Read is = is
ends_failed setting first last row Write is = is

pub ends_halted : (setting : Setting) (first last : List Entry) (row : Row) (halt : Halt) → IsHalt row halt → EndsBy setting first last row (halted_by halt)
ends_halted setting first last row (halts.Fault fault) is = ends_failed setting first last row fault is
ends_halted setting first last row (halts.Refused status) is = is

-- a fault that ends a worker was counted
pub faults_rise : (setting : Setting) (start : Side) (known : Known Entry) (events : Option (List Event)) (counts : Counts) (result : Result Worked AllocError)
    → start.row.faults ≡ 0 → Works setting start known events counts None result → IfOk result (λ worked. is_fault worked ≡ true → HasRisen start.counts.faults counts.faults)
faults_rise setting start known events counts (Err error) zero works = tt
faults_rise setting start known events counts (Ok worked.Done) zero works = λ is. absurd (cc)
faults_rise setting start known events counts (Ok (worked.Ended condition)) zero works = λ is. absurd (cc)
faults_rise setting start known events counts (Ok (worked.Refused status)) zero works = λ is. absurd (cc)
faults_rise setting start known events counts (Ok worked.Silent) zero works = λ is. absurd (cc)
faults_rise setting start known events counts (Ok worked.DialFault) zero works = λ is. row_risen setting start (side_of known events counts None works.hand works.row) works.moves zero (omega (arith, works.ends))
faults_rise setting start known events counts (Ok worked.ReadFault) zero works = λ is. row_risen setting start (side_of known events counts None works.hand works.row) works.moves zero (omega (arith, works.ends))
faults_rise setting start known events counts (Ok worked.WriteFault) zero works = λ is. row_risen setting start (side_of known events counts None works.hand works.row) works.moves zero (omega (arith, works.ends))

pub ends_dialled : (result : Result Worked AllocError) (old new : ℕ) → HasRisen old new → IfOk result (λ worked. has_read worked ≡ true → HasRisen old new)
ends_dialled (Err error) old new risen = tt
ends_dialled (Ok ended) old new risen = λ is. risen

-- a worker that was refused read another status than 200
pub refused_other : (setting : Setting) (start : Side) (known : Known Entry) (events : Option (List Event)) (counts : Counts) (status : ℕ)
    → start.row.refusals ≡ 0 → Works setting start known events counts None (Ok (worked.Refused status)) → status ≢ 200
refused_other setting start known events counts status zero works =
    subst (λ n. n ≢ 200) works.ends.1
    (row_other setting start (side_of known events counts None works.hand works.row) works.moves (λ some. absurd (omega (arith, zero, some))) (omega (arith, works.ends.0)))

pub refused_by : (setting : Setting) (start : Side) (known : Known Entry) (events : Option (List Event)) (counts : Counts) (result : Result Worked AllocError)
    → start.row.refusals ≡ 0 → Works setting start known events counts None result → (status : ℕ) → result ≡ Ok (worked.Refused status) → status ≢ 200
refused_by setting start known events counts result zero works status is = refused_other setting start known events counts status zero (subst (Works setting start known events counts None) is works)
