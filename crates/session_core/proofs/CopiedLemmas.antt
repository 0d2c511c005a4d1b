-- A copy of a session stands for the plain ones that the session stands for.
use Rattle.std.proofs.Common.{◌≡◌, ℕ, List, Option}
use Rattle.bosh_types.specs.declared.inward.Inward.{Inward}
use Rattle.reply_keep.specs.declared.keep.Keep.{Keep}
use Rattle.reply_keep.specs.PlainKeep.{PlainKeep}
use Rattle.reply_keep.specs.StandsFor as keeps
use Rattle.rid_window.specs.declared.window.Window.{Window}
use Rattle.rid_window.specs.PlainWindow.{PlainWindow}
use Rattle.rid_window.specs.StandsFor as windows
use Rattle.stream_names.specs.PlainStreams.{PlainStreams}
use Rattle.session_core.specs.declared.copy.RequestCopy.{RequestCopy}
use Rattle.session_core.specs.declared.held.HeldRequest.{HeldRequest}
use Rattle.session_core.specs.declared.session.Session.{Session}
use Rattle.session_core.specs.Queue.{Queue}
use Rattle.session_core.specs.StandsFor.{Holds}
use Rattle.session_core.specs.State.{PlainSession}
use Rattle.session_core.specs.Tickets.{Book}

pub copied_holds : {s : Session} {plain : PlainSession} {keys : Option (List ℕ)} {keep : Keep} {window : Window RequestCopy} {held : List HeldRequest}
    {inward : List Inward} {outbox : Queue} {tickets : Book} {streams : PlainStreams}
    → Holds s plain → keys ≡ s.keys
    → ((k : PlainKeep) → keeps.StandsFor s.keep k → keeps.StandsFor keep k)
    → ((w : PlainWindow RequestCopy) → windows.StandsFor s.window w → windows.StandsFor window w)
    → held ≡ s.held → inward ≡ s.inward → outbox ≡ s.outbox → tickets ≡ s.tickets → streams ≡ s.streams
    → Holds (record s { keys = keys; keep = keep; window = window; held = held; inward = inward; outbox = outbox; tickets = tickets; streams = streams }) plain
copied_holds {s = s} {plain = plain} h same_keys same_keep same_window same_held same_inward same_outbox same_tickets same_streams =
    rw (same_keys, same_held, same_inward, same_outbox, same_tickets, same_streams)
    (record {
      alike = h.alike;
      run = h.run;
      latest = h.latest;
      kept = record { keeps = same_keep _ h.kept.keeps; ids = h.kept.ids; acked = h.kept.acked };
      inward = h.inward;
      items = h.items;
      streams = h.streams;
      tickets = h.tickets;
      window = record { stands = same_window _ h.window.stands; ids = h.window.ids };
    })
