use Rattle.std.proofs.Common.{arith, refl, ◌∙◌, ap, take, slice_get}
use Rattle.session_core.specs.Journal.{Limit, state_of, ToArrive, ToTakeInward}
use Rattle.session_core.specs.Machine.{opened}
use Rattle.session_core.specs.State.{inward}
use Rattle.session_core.specs.Time.{time_applied}
use Rattle.session_laws.proofs.AloneLemmas.{every_alone, every_open, every_open_each}
use Rattle.session_laws.proofs.Bytes.{IsFirstAnswer, first_answer_steady, repeat_gets}
use Rattle.session_laws.proofs.Calls.{as_entered, unentered, takes_next}
use Rattle.session_laws.proofs.Carried.{every_one_body}
use Rattle.session_laws.proofs.Clear.{every_clear}
use Rattle.session_laws.proofs.Counts.{every_counts}
use Rattle.session_laws.proofs.Ended.{ended_stays}
use Rattle.session_laws.proofs.Followed.{every_run, every_longest, every_stands}
use Rattle.session_laws.proofs.Arrivals.{every_arrived}
use Rattle.session_laws.proofs.PlacedLemmas.{entry_places, every_plain}
use Rattle.session_laws.proofs.Waited.{every_struck}
use Rattle.session_laws.proofs.GivenIn.{every_given}
use Rattle.session_laws.proofs.GivenLemmas.{IsGiven, given_steady, given_is, opened_given}
use Rattle.session_laws.proofs.GivenStreams.{every_item_on}
use Rattle.session_laws.proofs.Grows.{steady-all, every_grows, ending_stays}
use Rattle.session_laws.proofs.LawsOf.{every_created, ends_both, every_answer_id, every_parked, every_answer_told, every_over, every_gap_waits, every_limit, every_struck_in_time, every_full, every_done, every_closed, every_quiet, collects_both, every_first_answer, every_same_bytes, living_before}
use Rattle.session_laws.proofs.NamedLemmas.{every_on_one, names_both}
use Rattle.session_laws.proofs.OpenedLemmas.{every_open_for, every_opens_next}
use Rattle.session_laws.proofs.Reasons.{every_settled}
use Rattle.session_laws.proofs.SoundLemmas.{IsSound, sound_steady}
use Rattle.session_laws.proofs.Steadily.{steady-time}
use Rattle.session_laws.proofs.Steps.{may_enter}
use Rattle.session_laws.proofs.RunAtEnd.{every_at_end, every_ruled}
use Rattle.session_laws.proofs.AnswersGiven.{every_answer, front_longest}
use Rattle.session_laws.proofs.ReplyLemmas.{last_words}
use Rattle.session_laws.proofs.KeptBoth.{every_kept}
use Rattle.session_laws.proofs.ServedLemmas.{every_served, prompt_takes}
use Rattle.session_laws.proofs.UnnamedLemmas.{answer_unnamed}
use Rattle.session_laws.proofs.Lists.{get_within}
use Rattle.session_laws.proofs.TicketSteps.{every_ticket}
use Rattle.session_laws.proofs.laws.every_journal_keeps_the_laws.Goals as goal

pub returns : goal.returns
returns c = record {
  laws = λ journal made. record {
    placed = λ call entered allowed is. (entry_places (state_of journal) entered (may_enter (state_of journal) call allowed entered is) (every_plain journal made)).placed;
    placed_at_limit = λ kind cost now may. refl;
    struck = every_struck journal made;
    struck_in_time = every_struck_in_time journal made;
    arrived = every_arrived journal made;
    stands = every_stands journal made;
    run = every_longest journal made;
    run_each = every_run journal made;
    run_rules = (every_ruled journal made).0;
    run_at_end = every_at_end journal made;
    open_stream = every_open journal made;
    open_each = every_open_each journal made;
    alone = every_alone journal made;
    open_for = every_open_for journal made;
    opens_next = every_opens_next journal made;
    one_body = every_one_body journal made (every_run journal made);
    entered = as_entered (state_of journal);
    unentered = unentered (state_of journal);
    grows = every_grows journal;
    ends = λ call entered ending allowed is on. ends_both journal made entered (may_enter (state_of journal) call allowed entered is) on ending;
    ends_at_limit = λ kind cost now ending may. ends_both journal made (Limit kind cost now) may may.0 ending;
    ended = λ call entered allowed is over. ended_stays (state_of journal) entered (may_enter (state_of journal) call allowed entered is) over;
    counts = (every_counts journal made).0;
    limit = every_limit journal made;
    gap_waits = every_gap_waits journal made;
    passed = ap (λ n. take n (inward (state_of journal))) (every_counts journal made).1;
    takes = ap ToTakeInward (takes_next (state_of journal) (slice_get (inward (state_of journal)) (state_of journal).passed));
    given = given_is (state_of journal) (steady-all IsGiven given_steady (opened journal.opening) journal.entries made.1 (opened_given journal.opening)) ∙ every_given journal made;
    settled = every_settled journal made;
    kept = every_kept journal made;
    repeats = λ request body now answer on room kept. ap ToArrive (repeat_gets (state_of journal) request body now answer
        (living_before (state_of journal) (time_applied (state_of journal) now) (steady-time _ (ending_stays (state_of journal)) (state_of journal) now (λ ending is. is)) on) room on
        (steady-time IsSound sound_steady (state_of journal) now (every_clear journal made).0)
        (steady-time IsFirstAnswer first_answer_steady (state_of journal) now (every_first_answer journal made)) kept);
    same_bytes = every_same_bytes journal;
    collects = collects_both journal;
    tickets = every_ticket journal made;
    created = every_created journal made;
    answer_ids = every_answer_id journal made;
    answers_processed = ((every_clear journal made).0).few;
    answered = every_answer journal made;
    served = every_served journal made;
    prompt = λ k one answer at given. prompt_takes (state_of journal) k one answer (every_answer journal made k answer given) (omega (arith, get_within (state_of journal).answered k answer given)) at;
    on_one = every_on_one journal made;
    names = λ k answer given stream. names_both given.earlier given.oldest answer.front stream;
    unnamed_answers = λ none k answer at given. answer_unnamed journal made none k answer at given;
    given_on = every_item_on journal made;
    fronts = front_longest;
    last_words = λ rid ending is beyond. last_words (state_of journal) rid ending (every_clear journal made).0 (every_first_answer journal made) is beyond;
    parked = every_parked journal made;
    told = every_answer_told journal made;
    over = every_over journal made;
    full = every_full (state_of journal);
    done = every_done (state_of journal);
    closed = every_closed (state_of journal);
    quiet = every_quiet (state_of journal);
  };
}
