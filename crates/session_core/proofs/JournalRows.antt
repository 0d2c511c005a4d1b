-- What a journal tells agrees with what its calls did on the rows.
use Rattle.std.proofs.Common.{◌≡◌, refl}
use Rattle.std.specs.Prelude.{ℕ, ◌+◌, ◌*◌, true, false, List, [], ◌∷◌, ◌++◌, map, take, Some, None, codes}
use Rattle.bosh_types.specs.declared.ending.Closing.TheVariants as closings
use Rattle.bosh_types.specs.declared.ending.Ending.TheVariants as endings
use Rattle.bosh_types.specs.declared.inward.Inward.{Inward}
use Rattle.bosh_types.specs.declared.inward.Inward.TheVariants.{Item}
use Rattle.session_core.specs.declared.replies.Arrived.TheVariants.{Answer, Parked}
use Rattle.session_core.specs.declared.replies.Collected.TheVariants as collections
use Rattle.session_core.specs.Copy.{id_of}
use Rattle.session_core.specs.Journal.{Collect, Back, BackClosed, Tick, TakeInward, Journal, ToArrive, ToCollect, state_of}
use Rattle.session_core.specs.Machine.{opened, is_full}
use Rattle.session_core.specs.Passed.{passed_of, given_in, items_taken}
use Rattle.session_core.specs.Run.{run_of}
use Rattle.session_core.specs.declared.outward.Outward.{Outward}
use Rattle.session_core.specs.declared.outward.Outward.TheVariants.{Stanza, Close}
use Rattle.session_core.specs.State.{inward, waiting, answers}
use Rattle.session_core.proofs.RowTools.{usual, opening, opening_with, empty, carrying, plain, outcome_after, journal_of, terminal_body, bodies_compute, keys_compute}

-- what the two views tell of a journal: the ids of the run; what was passed on; what the server gave, by the entries and by
-- the answers with what waits
pub record Views : Type 0 where
  pub run : List ℕ
  pub passed : List Inward
  pub taken : List Inward
  pub given : List Outward
  pub delivered : List Outward

abbrev views : Journal → Views
views journal = record {
  run = map id_of (run_of journal);
  passed = passed_of journal;
  taken = take (state_of journal).passed (inward (state_of journal));
  given = given_in journal;
  delivered = items_taken (answers (state_of journal)) ++ waiting (state_of journal);
}

held_until_an_item_waits :
    views (journal_of opening (carrying (empty 1001) (codes "<message/>") 0 ∷ Back 0 (codes "<iq/>") 0 ∷ Collect 1 ∷ TakeInward ∷ TakeInward ∷ []))
    ≡ record {
      run = 1000 ∷ 1001 ∷ [];
      passed = Item 0 (codes "<message/>") ∷ [];
      taken = Item 0 (codes "<message/>") ∷ [];
      given = Stanza 0 (codes "<stream:features/>") ∷ Stanza 0 (codes "<iq/>") ∷ [];
      delivered = Stanza 0 (codes "<stream:features/>") ∷ Stanza 0 (codes "<iq/>") ∷ [];
    }
unfolding bodies_compute
held_until_an_item_waits = refl

order_of_ids :
    views (journal_of opening (carrying (empty 1002) (codes "<presence/>") 0 ∷ carrying (empty 1001) (codes "<message/>") 0 ∷ Collect 1 ∷ []))
    ≡ record {
      run = 1000 ∷ 1001 ∷ 1002 ∷ [];
      passed = [];
      taken = [];
      given = Stanza 0 (codes "<stream:features/>") ∷ [];
      delivered = Stanza 0 (codes "<stream:features/>") ∷ [];
    }
unfolding bodies_compute
order_of_ids = refl

same_bytes_again :
    views (journal_of opening (carrying (empty 1001) (codes "<message/>") 0 ∷ Back 0 (codes "<iq/>") 0 ∷ Collect 1 ∷ Back 0 (codes "<presence/>") 0 ∷ carrying (empty 1001) (codes "<message/>") 0 ∷ carrying (empty 1002) (codes "<message id='2'/>") 0 ∷ []))
    ≡ record {
      run = 1000 ∷ 1001 ∷ 1002 ∷ [];
      passed = [];
      taken = [];
      given = Stanza 0 (codes "<stream:features/>") ∷ Stanza 0 (codes "<iq/>") ∷ Stanza 0 (codes "<presence/>") ∷ [];
      delivered = Stanza 0 (codes "<stream:features/>") ∷ Stanza 0 (codes "<iq/>") ∷ Stanza 0 (codes "<presence/>") ∷ [];
    }
unfolding bodies_compute
same_bytes_again = refl

later_copy_waits_instead :
    views (journal_of opening (carrying (empty 1001) (codes "<message/>") 0 ∷ carrying (empty 1001) (codes "<presence/>") 0 ∷ Collect 1 ∷ Back 0 (codes "<iq/>") 0 ∷ Collect 2 ∷ []))
    ≡ record {
      run = 1000 ∷ 1001 ∷ [];
      passed = [];
      taken = [];
      given = Stanza 0 (codes "<stream:features/>") ∷ Stanza 0 (codes "<iq/>") ∷ [];
      delivered = Stanza 0 (codes "<stream:features/>") ∷ Stanza 0 (codes "<iq/>") ∷ [];
    }
unfolding bodies_compute
later_copy_waits_instead = refl

no_longer_kept :
    views (journal_of opening (carrying (empty 1001) (codes "<a/>") 0 ∷ carrying (empty 1002) (codes "<b/>") 0 ∷ carrying (empty 1003) (codes "<c/>") 0 ∷ carrying (empty 1004) (codes "<d/>") 0 ∷ carrying (empty 1005) (codes "<e/>") 0 ∷ carrying (empty 1001) (codes "<a/>") 0 ∷ Collect 1 ∷ Collect 5 ∷ []))
    ≡ record {
      run = 1000 ∷ 1001 ∷ 1002 ∷ 1003 ∷ 1004 ∷ 1005 ∷ [];
      passed = [];
      taken = [];
      given = Stanza 0 (codes "<stream:features/>") ∷ [];
      delivered = Stanza 0 (codes "<stream:features/>") ∷ [];
    }
unfolding bodies_compute
no_longer_kept = refl

beyond_the_window :
    views (journal_of opening (carrying (empty 1001) (codes "<a/>") 0 ∷ carrying (empty 1004) (codes "<b/>") 0 ∷ Collect 1 ∷ []))
    ≡ record {
      run = 1000 ∷ 1001 ∷ [];
      passed = [];
      taken = [];
      given = Stanza 0 (codes "<stream:features/>") ∷ [];
      delivered = Stanza 0 (codes "<stream:features/>") ∷ [];
    }
unfolding bodies_compute
beyond_the_window = refl

one_more_for_a_pause :
    views (journal_of opening (carrying (empty 1001) (codes "<a/>") 0 ∷ plain (record (empty 1004) { pause = Some 60 }) 0 ∷ carrying (empty 1002) (codes "<b/>") 0 ∷ carrying (empty 1003) (codes "<c/>") 0 ∷ Collect 1 ∷ Collect 2 ∷ Collect 3 ∷ []))
    ≡ record {
      run = 1000 ∷ 1001 ∷ 1002 ∷ 1003 ∷ 1004 ∷ [];
      passed = [];
      taken = [];
      given = Stanza 0 (codes "<stream:features/>") ∷ [];
      delivered = Stanza 0 (codes "<stream:features/>") ∷ [];
    }
unfolding bodies_compute
one_more_for_a_pause = refl

keys_are_tested_in_the_order_of_ids :
    views (journal_of (opening_with usual (Some (codes "a9993e364706816aba3e25717850c26c9cd0d89d")) 1000) (carrying (record (empty 1002) { key = Some (codes "x") }) (codes "<b/>") 0 ∷ carrying (record (empty 1001) { key = Some (codes "abc") }) (codes "<a/>") 0 ∷ Collect 1 ∷ []))
    ≡ record {
      run = 1000 ∷ 1001 ∷ [];
      passed = [];
      taken = [];
      given = Stanza 0 (codes "<stream:features/>") ∷ [];
      delivered = Stanza 0 (codes "<stream:features/>") ∷ [];
    }
unfolding bodies_compute keys_compute
keys_are_tested_in_the_order_of_ids = refl

pause_too_long :
    views (journal_of opening (carrying (empty 1001) (codes "<a/>") 0 ∷ plain (record (empty 1002) { pause = Some 121 }) 0 ∷ Collect 1 ∷ []))
    ≡ record {
      run = 1000 ∷ 1001 ∷ [];
      passed = [];
      taken = [];
      given = Stanza 0 (codes "<stream:features/>") ∷ [];
      delivered = Stanza 0 (codes "<stream:features/>") ∷ [];
    }
unfolding bodies_compute
pause_too_long = refl

empty_requests_too_often :
    views (journal_of opening (carrying (empty 1001) (codes "<a/>") 1000 ∷ plain (empty 1002) 5999 ∷ Collect 1 ∷ []))
    ≡ record {
      run = 1000 ∷ 1001 ∷ [];
      passed = [];
      taken = [];
      given = Stanza 0 (codes "<stream:features/>") ∷ [];
      delivered = Stanza 0 (codes "<stream:features/>") ∷ [];
    }
unfolding bodies_compute
empty_requests_too_often = refl

empty_requests_in_time :
    views (journal_of opening (carrying (empty 1001) (codes "<a/>") 1000 ∷ plain (empty 1002) 6000 ∷ Collect 1 ∷ []))
    ≡ record {
      run = 1000 ∷ 1001 ∷ 1002 ∷ [];
      passed = [];
      taken = [];
      given = Stanza 0 (codes "<stream:features/>") ∷ [];
      delivered = Stanza 0 (codes "<stream:features/>") ∷ [];
    }
unfolding bodies_compute
empty_requests_in_time = refl

polls_too_often :
    views (journal_of (opening_with (record usual { hold = Some 0 }) None 1000) (plain (empty 1001) 10000 ∷ plain (empty 1002) 13000 ∷ []))
    ≡ record {
      run = 1000 ∷ 1001 ∷ [];
      passed = [];
      taken = [];
      given = Stanza 0 (codes "<stream:features/>") ∷ [];
      delivered = Stanza 0 (codes "<stream:features/>") ∷ [];
    }
unfolding bodies_compute
polls_too_often = refl

polls_in_time :
    views (journal_of (opening_with (record usual { hold = Some 0 }) None 1000) (plain (empty 1001) 10000 ∷ plain (empty 1002) 15000 ∷ []))
    ≡ record {
      run = 1000 ∷ 1001 ∷ 1002 ∷ [];
      passed = [];
      taken = [];
      given = Stanza 0 (codes "<stream:features/>") ∷ [];
      delivered = Stanza 0 (codes "<stream:features/>") ∷ [];
    }
unfolding bodies_compute
polls_in_time = refl

terminate_passes_its_stanzas :
    views (journal_of opening (carrying (empty 1001) (codes "<a/>") 0 ∷ carrying (record (empty 1002) { terminate = true }) (codes "<presence type='unavailable'/>") 0 ∷ Collect 1 ∷ Back 0 (codes "<iq/>") 0 ∷ []))
    ≡ record {
      run = 1000 ∷ 1001 ∷ 1002 ∷ [];
      passed = [];
      taken = [];
      given = Stanza 0 (codes "<stream:features/>") ∷ [];
      delivered = Stanza 0 (codes "<stream:features/>") ∷ [];
    }
unfolding bodies_compute
terminate_passes_its_stanzas = refl

closing_waits_for_the_items :
    views (journal_of opening (Back 0 (codes "<a/>") 0 ∷ BackClosed 0 closings.Plain 0 ∷ Back 0 (codes "<b/>") 0 ∷ plain (empty 1001) 0 ∷ plain (empty 1002) 0 ∷ []))
    ≡ record {
      run = 1000 ∷ 1001 ∷ 1002 ∷ [];
      passed = [];
      taken = [];
      given = Stanza 0 (codes "<stream:features/>") ∷ Stanza 0 (codes "<a/>") ∷ Close 0 closings.Plain ∷ [];
      delivered = Stanza 0 (codes "<stream:features/>") ∷ Stanza 0 (codes "<a/>") ∷ Close 0 closings.Plain ∷ [];
    }
unfolding bodies_compute
closing_waits_for_the_items = refl

reports_a_lost_answer :
    views (journal_of (opening_with (record usual { asks_ack = true }) None 1000) (carrying (empty 1001) (codes "<a/>") 0 ∷ Back 0 (codes "<x/>") 0 ∷ Collect 1 ∷ carrying (record (empty 1002) { ack = Some 1000 }) (codes "<b/>") 1500 ∷ plain (empty 1000) 1500 ∷ []))
    ≡ record {
      run = 1000 ∷ 1001 ∷ 1002 ∷ [];
      passed = [];
      taken = [];
      given = Stanza 0 (codes "<stream:features/>") ∷ Stanza 0 (codes "<x/>") ∷ [];
      delivered = Stanza 0 (codes "<stream:features/>") ∷ Stanza 0 (codes "<x/>") ∷ [];
    }
unfolding bodies_compute
reports_a_lost_answer = refl

silence_beyond_a_gap :
    views (journal_of opening (carrying (empty 1002) (codes "<b/>") 20000 ∷ Tick 50000 ∷ Tick 50001 ∷ Collect 1 ∷ []))
    ≡ record {
      run = 1000 ∷ [];
      passed = [];
      taken = [];
      given = Stanza 0 (codes "<stream:features/>") ∷ [];
      delivered = Stanza 0 (codes "<stream:features/>") ∷ [];
    }
unfolding bodies_compute
silence_beyond_a_gap = refl

stream_that_is_not_open :
    views (journal_of opening (carrying (record (empty 1001) { stream = Some (codes "x") }) (codes "<a/>") 0 ∷ []))
    ≡ record {
      run = 1000 ∷ [];
      passed = [];
      taken = [];
      given = Stanza 0 (codes "<stream:features/>") ∷ [];
      delivered = Stanza 0 (codes "<stream:features/>") ∷ [];
    }
unfolding bodies_compute
stream_that_is_not_open = refl

-- a creation of 108 bytes and fifteen bodies of 1,048,576 bytes with a child fit into a journal, and no sixteenth
journal_limit : (128 + 108 + 15 * (128 + 1048576 + 64) ≡ 15731756)
    × (is_full (record (opened opening) { counted = 14682988 }) 1048768 ≡ false) × (is_full (record (opened opening) { counted = 15731756 }) 1048768 ≡ true)
journal_limit = (refl, refl, refl)

-- where the journal has no room, the copy that came is told so, and the others that another request broke the session
journal_is_full :
    (outcome_after [] (record (opened opening) { counted = 16777000 }) (carrying (empty 1001) (codes "<a/>") 0 ∷ carrying (empty 1002) (codes "<b/>") 0 ∷ Collect 1 ∷ [])).replies
    ≡ ToArrive (Parked 1) ∷ ToArrive (Answer (terminal_body (codes "undefined-condition"))) ∷ ToCollect (collections.Answer (terminal_body (codes "other-request"))) ∷ []
unfolding bodies_compute
journal_is_full = refl

journal_is_full_by_its_numbers :
    (outcome_after [] (record (opened opening) { counted = 16777000 }) (carrying (empty 1001) (codes "<a/>") 0 ∷ carrying (empty 1002) (codes "<b/>") 0 ∷ [])).ending ≡ Some (endings.JournalFull 16777209 209)
unfolding bodies_compute
journal_is_full_by_its_numbers = refl
