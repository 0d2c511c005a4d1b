-- What a worker adds to its own entries, and what its end tells.
use Rattle.std.proofs.Common.{ℕ, refl}
use Rattle.std.specs.Prelude.{Option}
use Rattle.client_run.specs.declared.call.Call.TheVariants as calls
use Rattle.client_run.specs.declared.call.Reply.TheVariants as replies
use Rattle.client_run.specs.Adding.{AddsOnly, is_of_worker}
use Rattle.client_run.specs.Calls.{changes, reply_in}
use Rattle.client_run.specs.Working.{Move, Moves, Setting, Side, answers, asks, copies, dials, fails_to_dial, looks, loses, more, none, refuses, retires, wants_memory}
use Rattle.client_run.proofs.AddingLemmas.{adds_both, adds_called, adds_none, called_makes, called_wants}

adds_moved : (setting : Setting) (s t : Side) → Move setting s t → AddsOnly is_of_worker s.known t.known
adds_moved setting s t (dials events counts wire out begins ungiven kept counted) = adds_none is_of_worker s.known s.known refl
adds_moved setting s t (fails_to_dial counts out failed) = adds_none is_of_worker s.known s.known refl
adds_moved setting s t (asks new next now hand at called) =
    adds_called is_of_worker s.known new (calls.Next now) (changes (reply_in (replies.Next next))) refl (called_makes (calls.Next now) (replies.Next next) s.known new called)
adds_moved setting s t (looks new question answer asked) = adds_none is_of_worker s.known new asked.mine
adds_moved setting s t (copies new rid rids body hand asked) = adds_none is_of_worker s.known new asked.mine
adds_moved setting s t (wants_memory new call error called) = adds_none is_of_worker s.known new (called_wants call error s.known new called)
adds_moved setting s t (answers new rid body answer old wire now answered hand out exchanges at called) =
    adds_called is_of_worker s.known new (calls.Answer rid answer now) (changes (reply_in (replies.Answered answered))) refl (called_makes (calls.Answer rid answer now) (replies.Answered answered) s.known new called)
adds_moved setting s t (loses rid body old wire events counts row hand out tries retired counted) = adds_none is_of_worker s.known s.known refl
adds_moved setting s t (refuses rid body old wire events status hand out was retired) = adds_none is_of_worker s.known s.known refl
adds_moved setting s t (retires old events out retired) = adds_none is_of_worker s.known s.known refl

pub moves_add : (setting : Setting) (s t : Side) → Moves setting s t → AddsOnly is_of_worker s.known t.known
moves_add setting s t none = adds_none is_of_worker s.known s.known refl
moves_add setting s t (more {t = mid} moves move) = adds_both is_of_worker s.known mid.known t.known (moves_add setting s mid moves) (adds_moved setting mid t move)
