-- What the ends of workers tell, and that a client that is over stays so.
use Rattle.std.proofs.Common.{◌≡◌, ℕ, zero, suc, ◌<◌, ◌≤◌, ◌⊎◌, Bool, true, false, ◌&&◌, ◌||◌, List, [], ◌∷◌, ◌++◌, Some, None, inl, inr, refl, sym, ◌∙◌, ap, subst, arith, length-append}
use Rattle.std.specs.Prelude.{◌≢◌, ◌==◌, Option, Result, Ok, Err, is_some, nat_lt, not}
use Rattle.std.proofs.lemmas.Bool.{ltb-true}
use Rattle.std.proofs.lemmas.Bool.Decides.{nat_tests}
use Rattle.std.specs.List.{list_all}
use Rattle.std.specs.Option.{option_or}
use Rattle.std.proofs.lemmas.List.Folds.{list_all-append}
use Rattle.std.specs.declared.alloc.AllocError.{AllocError}
use Rattle.bosh_client.specs.declared.replies.ClientEnd.{ClientEnd}
use Rattle.bosh_client.specs.PlainClient.{PlainClient, Taken, end_of, first_end, has_ended, next_id}
use Rattle.bosh_client.specs.Runs as plain
use Rattle.bosh_client.specs.Runs.{called, step}
use Rattle.bosh_client.proofs.RunLemmas.{step_by}
use Rattle.bosh_ports.specs.Faults.{HasRisen}
use Rattle.bosh_ports.proofs.FaultLemmas.{HasRisen-after, HasRisen-before}
use Rattle.bosh_types.specs.Rid.{greatest_rid}
use Rattle.parked_gate.specs.Histories.{StartsWith}
use Rattle.parked_gate.specs.Passes.{Known}
use Rattle.server_ports.specs.Counts.{Counts, RisesWith, added}
use Rattle.server_ports.specs.Events.{Event}
use Rattle.client_run.specs.declared.entry.Entered.{Entered}
use Rattle.client_run.specs.declared.entry.Entered.TheVariants.{Setup, Called as IsCalled}
use Rattle.client_run.specs.declared.entry.Entry.{Entry}
use Rattle.client_run.specs.declared.gathering.Gathered.{Gathered}
use Rattle.client_run.specs.declared.gathering.Gathered.TheVariants as gathered
use Rattle.client_run.specs.declared.worked.Worked.{Worked}
use Rattle.client_run.specs.declared.worked.Worked.TheVariants as worked
use Rattle.client_run.specs.declared.worked.Worked.TheVariants.{Refused}
use Rattle.client_run.specs.Adding.{AddsOnly, is_entry, is_of_worker}
use Rattle.client_run.specs.Alarms.{has_heard}
use Rattle.client_run.specs.Calls.{call_in}
use Rattle.client_run.specs.History.{After, client_begun, client_by, client_from, client_in}
use Rattle.client_run.specs.Running.{BothFinished, EndTold, Finished, GatheredTells, Gathers, IsEndOf, IsOver, IsToilOf, TakesBoth, TakesOne, WasOver, finishes, gathered_of, is_end_of, is_refusal, is_over, is_silent, is_toil_of, is_over_by, worse_of}
use Rattle.client_run.specs.Worked.{IsDone, Works, has_read, is_fault}
use Rattle.client_run.specs.Working.{Setting, Side, side_of}
use Rattle.client_run.proofs.RiseLemmas.{moves_count, starts_later}

-- A client that is over stays so.

abbrev pub OverOn : PlainClient → PlainClient → Type 0
OverOn c d = IsOver c → IsOver d

or_true : (a : Bool) → (a || true) ≡ true
or_true true = refl
or_true false = refl

option_later : (o : Option ClientEnd) (before after : Option ClientEnd) → (is_some before ≡ true → is_some after ≡ true) → is_some (option_or o before) ≡ true → is_some (option_or o after) ≡ true
option_later None before after later is = later is
option_later (Some end) before after later is = refl

ended_later : (answers : List (ℕ × Taken)) (answer : ℕ × Taken) → is_some (first_end answers) ≡ true → is_some (first_end (answers ++ answer ∷ [])) ≡ true
ended_later [] answer is = absurd (cc)
ended_later (one ∷ answers) answer is = option_later one.1.tells.end (first_end answers) (first_end (answers ++ answer ∷ [])) (ended_later answers answer) is

over_step : (c : PlainClient) (call : plain.Call) → OverOn c (step c call).0
over_step c call =
    step_by c (λ done. OverOn c done.0) (λ reply nothing over. over) (λ item over. over)
    (λ now due left next over. more_requests c _ over)
    (λ rid t made none reads fine over. more_answers c (rid, t) over) (λ payload at over. over) call
  where
    more_requests : (c : PlainClient) (request : _) → IsOver c → IsOver (record c { requests = c.requests ++ request ∷ [] })
    more_requests c request (inl ended) = inl ended
    more_requests c request (inr left) = inr (omega (arith, left, length-append c.requests (request ∷ [])))

    more_answers : (c : PlainClient) (answer : ℕ × Taken) → IsOver c → IsOver (record c { answers = c.answers ++ answer ∷ [] })
    more_answers c answer (inl ended) = inl (ended_later c.answers answer ended)
    more_answers c answer (inr left) = inr left

some_same : {X : Type 0} (x y : X) → Some x ≡ Some y → x ≡ y
some_same x y is = cc

-- a client after more entries
from_entered : (es rest : List Entry) (c d : PlainClient) (x : Entered) → ((n : PlainClient) → client_from n es ≡ Some d → client_from n (es ++ rest) ≡ client_from d rest)
    → client_by (λ n. client_from n es) c x ≡ Some d → client_by (λ n. client_from n (es ++ rest)) c x ≡ client_from d rest
from_entered es rest c d (Setup setup) later is = absurd (cc)
from_entered es rest c d (IsCalled call) later is = later (step c (call_in call)).0 is

from_more : (es rest : List Entry) (c d : PlainClient) → client_from c es ≡ Some d → client_from c (es ++ rest) ≡ client_from d rest
from_more [] rest c d is = ap (λ n. client_from n rest) (some_same c d is)
from_more (e ∷ es) rest c d is = from_entered es rest c d e.entered (λ n. from_more es rest n d) is

over_entered : (es : List Entry) (c d : PlainClient) (x : Entered) → ((n : PlainClient) → client_from n es ≡ Some d → IsOver n → IsOver d) → client_by (λ n. client_from n es) c x ≡ Some d → IsOver c → IsOver d
over_entered es c d (Setup setup) later is over = absurd (cc)
over_entered es c d (IsCalled call) later is over = later (step c (call_in call)).0 is (over_step c (call_in call) over)

over_from : (es : List Entry) (c d : PlainClient) → client_from c es ≡ Some d → IsOver c → IsOver d
over_from [] c d is over = subst IsOver (some_same c d is) over
over_from (e ∷ es) c d is over = over_entered es c d e.entered (λ n. over_from es n d) is over

begun_more : (es rest : List Entry) (c d : PlainClient) (x : Entered) → client_begun x es ≡ Some c → client_begun x (es ++ rest) ≡ Some d → IsOver c → IsOver d
begun_more es rest c d (Setup setup) is later over = over_from rest c d (sym (from_more es rest _ c is) ∙ later) over
begun_more es rest c d (IsCalled call) is later over = absurd (cc)

over_later : (log rest : List Entry) (c d : PlainClient) → client_in log ≡ Some c → client_in (log ++ rest) ≡ Some d → IsOver c → IsOver d
unfolding client_in
over_later [] rest c d is later over = absurd (cc)
over_later (e ∷ es) rest c d is later over = begun_more es rest c d e.entered is later over

-- it is over still, at any later time
pub still_over : (seen : List Entry) (c : PlainClient) → WasOver seen → client_in seen ≡ Some c → IsOver c
still_over seen c was is = over_later was.log was.begins.0 was.over.plain c was.over.is (sym (ap client_in was.begins.1) ∙ is) was.over.holds

pub was_later : (seen later : List Entry) → WasOver seen → StartsWith later seen → WasOver later
was_later seen later was begins = record { log = was.log; begins = starts_later was.log seen later was.begins begins; over = was.over }

-- What a worker's end tells, as a test.

to_over : (c : PlainClient) → IsOver c → is_over c ≡ true
to_over c (inl ended) = ap (λ b. b || nat_lt greatest_rid (next_id c)) ended
to_over c (inr left) = ap (λ b. has_ended c || b) (grind (arith, nat_tests, left)) ∙ or_true (has_ended c)

from_or : (a b : Bool) → (a || b) ≡ true → (a ≡ true) ⊎ (b ≡ true)
from_or true b is = inl refl
from_or false b is = inr is

from_over : (c : PlainClient) → is_over c ≡ true → IsOver c
from_over c is = by_case (from_or (has_ended c) (nat_lt greatest_rid (next_id c)) is)
  where
    by_case : (has_ended c ≡ true) ⊎ (nat_lt greatest_rid (next_id c) ≡ true) → IsOver c
    by_case (inl ended) = inl ended
    by_case (inr left) = inr (ltb-true greatest_rid (next_id c) left)

to_test : (log : List Entry) → After log IsOver → is_over_by (client_in log) ≡ true
to_test log after = ap is_over_by after.is ∙ to_over after.plain after.holds

from_test : (log : List Entry) (o : Option PlainClient) → client_in log ≡ o → is_over_by o ≡ true → After log IsOver
from_test log None is over = absurd (cc)
from_test log (Some c) is over = record { plain = c; is = is; holds = from_over c over }

and_both : (a b : Bool) → a ≡ true → b ≡ true → (a && b) ≡ true
and_both a b one two = ap (λ x. x && b) one ∙ two

from_and : (a b : Bool) → (a && b) ≡ true → (a ≡ true) × (b ≡ true)
from_and true b is = (refl, is)
from_and false b is = absurd (cc)

-- What the end of a worker tells.

pub some_risen : (old new : ℕ) → HasRisen old new → old ≤ new → 0 < new
some_risen zero new risen falls = omega (arith, risen (omega arith))
some_risen (suc old) new risen falls = omega (arith, falls)

ended_is : (o : Option ClientEnd) (end : ClientEnd) → o ≡ Some end → is_some o ≡ true
ended_is o end is = ap is_some is

done_over : (c : PlainClient) → IsDone c → IsOver c
done_over c (inl end) = inl (ended_is (end_of c) _ end)
done_over c (inr none) = inr none.1

pub all_none : (old : Known Entry) → old.mine ≡ [] → list_all (is_entry is_of_worker) old.mine ≡ true
all_none old none = ap (λ es. list_all (is_entry is_of_worker) es) none

pub all_kept : (old new : Known Entry) → list_all (is_entry is_of_worker) old.mine ≡ true → AddsOnly is_of_worker old new → list_all (is_entry is_of_worker) new.mine ≡ true
all_kept old new all adds =
    ap (λ es. list_all (is_entry is_of_worker) es) adds.mine ∙ list_all-append (is_entry is_of_worker) old.mine adds.added ∙ ap (λ b. b && list_all (is_entry is_of_worker) adds.added) all ∙ adds.holds

module _ (setting : Setting) (start : Side) (known : Known Entry) (events : Option (List Event)) (counts : Counts) (alarm : Known ℕ) where
  some_test : (n : ℕ) → 0 < n → nat_lt 0 n ≡ true
  some_test n some = grind (arith, nat_tests, some)

  other_test : (n : ℕ) → n ≢ 200 → not (n == 200) ≡ true
  other_test n other = grind (arith, nat_tests, other)

  finishing : After known.seen IsOver → 0 < counts.dialled → list_all (is_entry is_of_worker) known.mine ≡ true → finishes known counts ≡ true
  finishing over dialled mine = and_both _ _ (to_test known.seen over) (and_both _ _ (some_test counts.dialled dialled) mine)

  -- a worker whose own entries were requests and answers alone before
  pub end_by : (worked : Worked) → Works setting start known events counts None (Ok worked)
      → (is_fault worked ≡ true → HasRisen start.counts.faults counts.faults) → (has_read worked ≡ true → HasRisen start.counts.dialled counts.dialled)
      → ((status : ℕ) → worked ≡ Refused status → status ≢ 200) → list_all (is_entry is_of_worker) known.mine ≡ true → (is_silent worked ≡ true → has_heard alarm ≡ true) → IsToilOf (Ok worked) known counts alarm
  unfolding is_toil_of
  end_by worked.Done works fault dialled refused mine heard =
      finishing (record { plain = works.ends.plain; is = works.ends.is; holds = done_over works.ends.plain works.ends.holds })
      (some_risen start.counts.dialled counts.dialled (dialled refl) (moves_count setting start (side_of known events counts None works.hand works.row) works.moves).dialled) mine
  end_by (worked.Ended condition) works fault dialled refused mine heard =
      finishing (record { plain = works.ends.plain; is = works.ends.is; holds = inl (ended_is (end_of works.ends.plain) _ works.ends.holds) })
      (some_risen start.counts.dialled counts.dialled (dialled refl) (moves_count setting start (side_of known events counts None works.hand works.row) works.moves).dialled) mine
  end_by worked.DialFault works fault dialled refused mine heard = some_test counts.faults (some_risen start.counts.faults counts.faults (fault refl) (moves_count setting start (side_of known events counts None works.hand works.row) works.moves).faults)
  end_by worked.ReadFault works fault dialled refused mine heard = some_test counts.faults (some_risen start.counts.faults counts.faults (fault refl) (moves_count setting start (side_of known events counts None works.hand works.row) works.moves).faults)
  end_by worked.WriteFault works fault dialled refused mine heard = some_test counts.faults (some_risen start.counts.faults counts.faults (fault refl) (moves_count setting start (side_of known events counts None works.hand works.row) works.moves).faults)
  end_by (worked.Refused status) works fault dialled refused mine heard =
      and_both (not (status == 200)) (nat_lt 0 counts.dialled) (other_test status (refused status refl))
      (some_test counts.dialled (some_risen start.counts.dialled counts.dialled (dialled refl) (moves_count setting start (side_of known events counts None works.hand works.row) works.moves).dialled))
  end_by worked.Silent works fault dialled refused mine heard = heard refl

pub end_wanting : (error : AllocError) (known : Known Entry) (counts : Counts) (alarm : Known ℕ) → IsToilOf (Err error) known counts alarm
unfolding is_toil_of
end_wanting error known counts alarm = refl

-- Ends that are taken.

risen_added : (old theirs : ℕ) → 0 < theirs → HasRisen old (added old theirs)
risen_added old theirs some = λ small. omega (arith, small, some)

falls_added : (old theirs : ℕ) → old ≤ added old theirs
falls_added old theirs = omega arith

module _ (old new other : Known Entry) (counts later theirs : Counts) (begins : StartsWith new.seen old.seen) (others : StartsWith new.seen other.seen) (mine : new.mine ≡ old.mine)
    (faults : RisesWith counts.faults later.faults theirs.faults) (back : later ≡ record counts { faults = later.faults; dialled = added counts.dialled theirs.dialled }) (alarm : Known ℕ) where
  dialled_is : later.dialled ≡ added counts.dialled theirs.dialled
  dialled_is = ap (λ c. c.dialled) back

  other_is : (n : ℕ) → not (n == 200) ≡ true → n ≢ 200
  other_is n other = λ is. absurd (grind (arith, nat_tests, other, is))

  finished_tells : finishes other theirs ≡ true → GatheredTells new.seen counts later gathered.Over
  finished_tells is =
      let parts = from_and (is_over_by (client_in other.seen)) _ is in (
        record { log = other.seen; begins = others; over = from_test other.seen (client_in other.seen) refl parts.0 },
        subst (HasRisen counts.dialled) (sym dialled_is) (risen_added counts.dialled theirs.dialled (ltb-true 0 theirs.dialled (from_and (nat_lt 0 theirs.dialled) _ parts.1).0)),
      )

  tells_by : (worked : Result Worked AllocError) → IsEndOf worked other theirs alarm → GatheredTells new.seen counts later (gathered_of worked)
  unfolding is_end_of
  tells_by (Ok worked.Done) end = finished_tells end
  tells_by (Ok (worked.Ended condition)) end = finished_tells end
  tells_by (Ok worked.DialFault) end = faults.risen (ltb-true 0 theirs.faults (from_and (nat_lt 0 theirs.faults) _ end).0)
  tells_by (Ok worked.ReadFault) end = faults.risen (ltb-true 0 theirs.faults (from_and (nat_lt 0 theirs.faults) _ end).0)
  tells_by (Ok worked.WriteFault) end = faults.risen (ltb-true 0 theirs.faults (from_and (nat_lt 0 theirs.faults) _ end).0)
  tells_by (Ok (worked.Refused status)) end =
      let parts = from_and (not (status == 200)) _ (from_and (is_refusal status theirs) _ end).0 in
      (other_is status parts.0, subst (HasRisen counts.dialled) (sym dialled_is) (risen_added counts.dialled theirs.dialled (ltb-true 0 theirs.dialled parts.1)))
  tells_by (Ok worked.Silent) end = tt
  tells_by (Err error) end = tt

  pub gathered_by : (worked : Result Worked AllocError) (result : Gathered) → result ≡ gathered_of worked → IsEndOf worked other theirs alarm → Gathers old new counts later result
  gathered_by worked result is end = record {
    begins = begins;
    mine = mine;
    faults = faults.never_falls;
    dialled = subst (λ n. counts.dialled ≤ n) (sym dialled_is) (falls_added counts.dialled theirs.dialled);
    tells = subst (GatheredTells new.seen counts later) (sym is) (tells_by worked end);
  }

  pub taken_by : (worked : Result Worked AllocError) (result : Gathered) → result ≡ gathered_of worked → IsEndOf worked other theirs alarm → TakesOne new.seen counts later result
  taken_by worked result is end = record { end = record { worked = worked; known = other; share = theirs; alarm = alarm; begins = others; tells = end; is = is }; dialled = dialled_is }

-- both tell
both_tell : (seen last : List Entry) (a b c : Counts) (first second : Gathered) → StartsWith last seen → a.faults ≤ b.faults → b.faults ≤ c.faults → a.dialled ≤ b.dialled → b.dialled ≤ c.dialled
    → GatheredTells seen a b first → GatheredTells last b c second → GatheredTells last a c (worse_of first second)
both_tell seen last a b c gathered.NetFault second begins f1 f2 d1 d2 one two = HasRisen-after a.faults b.faults c.faults one f2
both_tell seen last a b c (gathered.Refused status) gathered.NetFault begins f1 f2 d1 d2 one two = HasRisen-before a.faults b.faults c.faults f1 f2 two
both_tell seen last a b c (gathered.Refused status) (gathered.Refused other) begins f1 f2 d1 d2 one two = (one.0, HasRisen-after a.dialled b.dialled c.dialled one.1 d2)
both_tell seen last a b c (gathered.Refused status) gathered.Over begins f1 f2 d1 d2 one two = (one.0, HasRisen-after a.dialled b.dialled c.dialled one.1 d2)
both_tell seen last a b c (gathered.Refused status) gathered.NoMemory begins f1 f2 d1 d2 one two = (one.0, HasRisen-after a.dialled b.dialled c.dialled one.1 d2)
both_tell seen last a b c gathered.Over (gathered.Refused status) begins f1 f2 d1 d2 one two = (two.0, HasRisen-before a.dialled b.dialled c.dialled d1 d2 two.1)
both_tell seen last a b c gathered.NoMemory (gathered.Refused status) begins f1 f2 d1 d2 one two = (two.0, HasRisen-before a.dialled b.dialled c.dialled d1 d2 two.1)
both_tell seen last a b c gathered.Over gathered.NetFault begins f1 f2 d1 d2 one two = HasRisen-before a.faults b.faults c.faults f1 f2 two
both_tell seen last a b c gathered.Over gathered.Over begins f1 f2 d1 d2 one two = (two.0, HasRisen-before a.dialled b.dialled c.dialled d1 d2 two.1)
both_tell seen last a b c gathered.Over gathered.NoMemory begins f1 f2 d1 d2 one two = tt
both_tell seen last a b c gathered.NoMemory gathered.NetFault begins f1 f2 d1 d2 one two = HasRisen-before a.faults b.faults c.faults f1 f2 two
both_tell seen last a b c gathered.NoMemory gathered.Over begins f1 f2 d1 d2 one two = tt
both_tell seen last a b c gathered.NoMemory gathered.NoMemory begins f1 f2 d1 d2 one two = tt

pub gathered_both : (old mid new : Known Entry) (a b c : Counts) (first second result : Gathered) → Gathers old mid a b first → Gathers mid new b c second → result ≡ worse_of first second → Gathers old new a c result
gathered_both old mid new a b c first second result one two is = record {
  begins = starts_later old.seen mid.seen new.seen one.begins two.begins;
  mine = two.mine ∙ one.mine;
  faults = omega (arith, one.faults, two.faults);
  dialled = omega (arith, one.dialled, two.dialled);
  tells = subst (GatheredTells new.seen a c) (sym is) (both_tell mid.seen new.seen a b c first second two.begins one.faults two.faults one.dialled two.dialled one.tells two.tells);
}

told_later : (seen last : List Entry) (result : Gathered) → StartsWith last seen → EndTold seen result → EndTold last result
told_later seen last result later told = record { worked = told.worked; known = told.known; share = told.share; alarm = told.alarm; begins = starts_later told.known.seen seen last told.begins later; tells = told.tells; is = told.is }

pub taken_both : (seen last : List Entry) (a b c : Counts) (first second result : Gathered) → StartsWith last seen → TakesOne seen a b first → TakesOne last b c second → result ≡ worse_of first second → TakesBoth last a c result
unfolding told_later
taken_both seen last a b c first second result later one two is = record {
  one = first;
  other = second;
  first = told_later seen last first later one.end;
  second = two.end;
  dialled = two.dialled ∙ ap (λ n. added n two.end.share.dialled) one.dialled;
  is = is;
}

pub takes_later : (seen last : List Entry) (old new : Counts) (result : Gathered) → StartsWith last seen → TakesBoth seen old new result → TakesBoth last old new result
unfolding told_later
takes_later seen last old new result later both = record {
  one = both.one;
  other = both.other;
  first = told_later seen last both.one later both.first;
  second = told_later seen last both.other later both.second;
  dialled = both.dialled;
  is = both.is;
}

both_over : (one other : Gathered) → worse_of one other ≡ gathered.Over → (one ≡ gathered.Over) × (other ≡ gathered.Over)
both_over gathered.Over other is = (refl, is)
both_over gathered.NetFault other is = absurd (cc)
both_over (gathered.Refused status) gathered.Over is = absurd (cc)
both_over (gathered.Refused status) gathered.NetFault is = absurd (cc)
both_over (gathered.Refused status) (gathered.Refused more) is = absurd (cc)
both_over (gathered.Refused status) gathered.NoMemory is = absurd (cc)
both_over gathered.NoMemory (gathered.Refused status) is = absurd (cc)
both_over gathered.NoMemory gathered.Over is = absurd (cc)
both_over gathered.NoMemory gathered.NetFault is = absurd (cc)
both_over gathered.NoMemory gathered.NoMemory is = absurd (cc)

-- a worker that was over ended with its client
finished_as : (seen : List Entry) (known : Known Entry) (share : Counts) → StartsWith seen known.seen → finishes known share ≡ true → (f : Finished seen) × (f.share ≡ share)
finished_as seen known share begins is =
    let parts = from_and (is_over_by (client_in known.seen)) _ is in
    let others = from_and (nat_lt 0 share.dialled) _ parts.1 in (
      record { known = known; share = share; begins = begins; over = from_test known.seen (client_in known.seen) refl parts.0; dialled = ltb-true 0 share.dialled others.0; only = others.1 },
      refl,
    )

finished_by : (seen : List Entry) (worked : Result Worked AllocError) (known : Known Entry) (share : Counts) (alarm : Known ℕ) → StartsWith seen known.seen → IsEndOf worked known share alarm → gathered.Over ≡ gathered_of worked → (f : Finished seen) × (f.share ≡ share)
unfolding is_end_of
finished_by seen (Ok worked.Done) known share alarm begins tells is = finished_as seen known share begins tells
finished_by seen (Ok (worked.Ended condition)) known share alarm begins tells is = finished_as seen known share begins tells
finished_by seen (Ok worked.DialFault) known share alarm begins tells is = absurd (cc)
finished_by seen (Ok worked.ReadFault) known share alarm begins tells is = absurd (cc)
finished_by seen (Ok worked.WriteFault) known share alarm begins tells is = absurd (cc)
finished_by seen (Ok (worked.Refused status)) known share alarm begins tells is = absurd (cc)
finished_by seen (Ok worked.Silent) known share alarm begins tells is = absurd (cc)
finished_by seen (Err error) known share alarm begins tells is = absurd (cc)

finished_told : (seen : List Entry) (result : Gathered) → result ≡ gathered.Over → (told : EndTold seen result) → (f : Finished seen) × (f.share ≡ told.share)
finished_told seen result is told = finished_by seen told.worked told.known told.share told.alarm told.begins told.tells (sym is ∙ told.is)

pub both_finished : (seen : List Entry) (old new : Counts) (result : Gathered) → result ≡ gathered.Over → TakesBoth seen old new result → BothFinished seen old new
both_finished seen old new result is both =
    let overs = both_over both.one both.other (sym both.is ∙ is) in
    let first = finished_told seen both.one overs.0 both.first in
    let second = finished_told seen both.other overs.1 both.second in
    record {
      first = first.0;
      second = second.0;
      dialled = both.dialled ∙ ap (λ share. added (added old.dialled share.dialled) both.second.share.dialled) (sym first.1) ∙ ap (λ share. added (added old.dialled first.0.share.dialled) share.dialled) (sym second.1);
    }

pub finished_later : (seen last : List Entry) (old new : Counts) → StartsWith last seen → BothFinished seen old new → BothFinished last old new
finished_later seen last old new later both = record { first = by both.first; second = by both.second; dialled = both.dialled }
  where
    by : Finished seen → Finished last
    by f = record { known = f.known; share = f.share; begins = starts_later f.known.seen seen last f.begins later; over = f.over; dialled = f.dialled; only = f.only }

-- what a joined pass has of its own
pub longer_mine : (old new : Known Entry) (seen : List Entry) → new ≡ record old { seen = seen } → new.mine ≡ old.mine
longer_mine old new seen is = ap (λ known. known.mine) is
