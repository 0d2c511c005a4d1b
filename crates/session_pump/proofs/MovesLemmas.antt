-- Moves of the pump, one after the other.
use Rattle.std.proofs.Common.{◌≡◌, ◌≢◌, ◌⊎◌, inl, inr, ℕ, List, ◌∷◌, [], ◌++◌, set, Option, Some, None, refl, sym, ap, subst, ◌∙◌, true}
use Rattle.std.specs.Prelude.{slice_get, false}
use Rattle.bosh_types.specs.declared.inward.Inward.{Inward}
use Rattle.bosh_types.specs.declared.inward.Inward.TheVariants as inward
use Rattle.parked_gate.specs.Passes.{Known}
use Rattle.session_journal.specs.declared.entry.Entry.{Entry}
use Rattle.xmpp_backend.specs.Counts.{Counts}
use Rattle.xmpp_backend.specs.Told.{Told, closed_too, opened_too, passed_too}
use Rattle.session_pump.specs.Ends.{Changes, Ends, HasFailed, Shifts}
use Rattle.session_pump.specs.Hosts.{HostFacts}
use Rattle.session_pump.specs.Sides.{AreOpened, LineFacts, Move, Moves, MovesToTheEnd, OnStrand, Served, Strand, StrandMove, StrandMoves, asks_room, closes, does_nothing, fails_at, fails_to_close, fails_to_open, gives, gives_last, goes_on, is_for, is_opening, lets_go, more, none, on_strand, on_stream, opens, passes, refuses, serving, stays, strand, stream_of, tells_cut, wants, with_side}
use Rattle.session_pump.specs.declared.line.Side.{Side}
use Rattle.session_pump.specs.declared.line.Stage.TheVariants as stages
use Rattle.session_pump.proofs.ListLemmas.{got_changed, got_more, got_set, set_same, set_twice}

pub moves_then : {moment : Option ℕ} {s t u : Served} → Moves moment s t → Moves moment t u → Moves moment s u
moves_then first none = first
moves_then first (more rest last) = more (moves_then first rest) last

pub one_move : {moment : Option ℕ} {s t : Served} → Move moment s t → Moves moment s t
one_move move = more none move

pub strands_then : {moment : Option ℕ} {s t u : Strand} → StrandMoves moment s t → StrandMoves moment t u → StrandMoves moment s u
strands_then first stays = first
strands_then first (goes_on rest last) = goes_on (strands_then first rest) last

pub one_strand : {moment : Option ℕ} {s t : Strand} → StrandMove moment s t → StrandMoves moment s t
one_strand move = goes_on stays move

-- what comes after moves
pub end_after : {moment : Option ℕ} {s t u : Served} → Moves moment s t → MovesToTheEnd moment t u → MovesToTheEnd moment s u
end_after first rest =
    record { last = rest.last; moves = moves_then first rest.moves; kept = rest.kept; opened = rest.opened; called = rest.called; same = rest.same }

-- the back ends are as before but for what is told
pub ends_are : (change : Told → Told) (idle answers : ℕ → ℕ) (e f : Ends) → Shifts change idle answers e f
    → record e { standing = record { told = f.standing.told; counts = record e.standing.counts { idle = idle e.standing.counts.idle; answers = answers e.standing.counts.answers } } } ≡ f
ends_are change idle answers e f shifts =
    ap (λ (counts : Counts). record e { standing = record { told = f.standing.told; counts = counts } }) (sym shifts.counts) ∙ sym shifts.others

-- a move after which the back ends are these
strand_as : {moment : Option ℕ} (s : Strand) (known : Known Entry) (kept : Option Inward) (side : Side) (change : Told → Told) (e f : Ends) → Changes change e f
    → StrandMove moment s (strand known kept side (record e { standing = record e.standing { told = f.standing.told } }))
    → StrandMoves moment s (strand known kept side f)
strand_as {moment} s known kept side change e f changes move =
    subst (λ (ends : Ends). StrandMoves moment s (strand known kept side ends)) (ends_are change (λ count. count) (λ count. count) e f changes) (one_strand move)

module _ {moment : Option ℕ} {known : Known Entry} where
  -- the kept item was passed on
  pub passed_on : (side : Side) (e f : Ends) (item : Inward) → side.stage ≡ stages.Opened e.failures → is_for side.stream item ≡ true
      → Changes (passed_too side.wire item) e f → StrandMoves moment (strand known (Some item) side e) (strand known None side f)
  passed_on side e f item is for changes =
      strand_as (strand known (Some item) side e) known None side (passed_too side.wire item) e f changes (passes item f.standing.told is refl for changes.told)

  -- the back end failed at it: another one stands there, and the item is lost
  pub failed_at : (side : Side) (e f : Ends) (item : Inward) → side.stage ≡ stages.Opened e.failures → is_for side.stream item ≡ true → HasFailed e f
      → StrandMoves moment (strand known (Some item) side e) (strand known None side f)
  failed_at side e f item is for failed = one_strand (fails_at item f is refl for failed)

  -- the wire isn't open, and what is kept is let go
  pub let_go : (side : Side) (e : Ends) (item : Inward) → stream_of item ≡ side.stream → is_opening item ≡ false → side.stage ≢ stages.Unopened
      → (side.stage ≡ stages.Opened e.failures → ⊥) → StrandMoves moment (strand known (Some item) side e) (strand known None side e)
  let_go side e item of passing opened closed = one_strand (lets_go item refl of passing opened closed)

  -- the wire was closed
  pub closed_so : (side : Side) (e f : Ends) → side.stage ≡ stages.Opened e.failures → Changes (closed_too side.wire) e f
      → StrandMoves moment (strand known (Some (inward.Close side.stream)) side e) (strand known None (record side { stage = stages.Lost }) f)
  closed_so side e f is changes =
      strand_as (strand known (Some (inward.Close side.stream)) side e) known None (record side { stage = stages.Lost }) (closed_too side.wire) e f changes
      (closes f.standing.told is refl changes.told)

  pub failed_to_close : (side : Side) (e f : Ends) → side.stage ≡ stages.Opened e.failures → HasFailed e f
      → StrandMoves moment (strand known (Some (inward.Close side.stream)) side e) (strand known None (record side { stage = stages.Lost }) f)
  failed_to_close side e f is failed = one_strand (fails_to_close f is refl failed)

  -- the call did nothing for want of memory
  pub did_nothing : (kept : Option Inward) (side : Side) (e f : Ends) → Changes (λ told. told) e f
      → StrandMoves moment (strand known kept side e) (strand known kept side f)
  did_nothing kept side e f changes = strand_as (strand known kept side e) known kept side (λ told. told) e f changes (does_nothing f.standing.told changes.told)

  -- the wire was opened
  pub opened_on : (kept : Option Inward) (side : Side) (e f : Ends) → side.stage ≡ stages.Unopened → Changes (opened_too side.wire e.name) e f
      → StrandMoves moment (strand known kept side e) (strand known kept (record side { stage = stages.Opened e.failures }) f)
  opened_on kept side e f is changes =
      strand_as (strand known kept side e) known kept (record side { stage = stages.Opened e.failures }) (opened_too side.wire e.name) e f changes (opens f.standing.told is changes.told)

  -- it couldn't be opened
  pub failed_to_open : (kept : Option Inward) (side : Side) (e f : Ends) → side.stage ≡ stages.Unopened → HasFailed e f
      → StrandMoves moment (strand known kept side e) (strand known kept (record side { stage = stages.Opened e.failures }) f)
  failed_to_open kept side e f is failed = one_strand (fails_to_open f is failed)

-- ---- moves of a stream are moves of its session

same_host : {moment : Option ℕ} {s t : Strand} → StrandMove moment s t → t.side.host ≡ s.side.host
same_host (wants new call error called) = refl
same_host (opens told is becomes) = refl
same_host (fails_to_open ends is failed) = refl
same_host (passes item told is kept for becomes) = refl
same_host (fails_at item ends is kept for failed) = refl
same_host (closes told is kept becomes) = refl
same_host (fails_to_close ends is kept failed) = refl
same_host (lets_go item kept of passing opened closed) = refl
same_host (does_nothing told becomes) = refl
same_host (tells_cut new now reply cut at called) = refl
same_host (asks_room owing new is asked) = refl
same_host (refuses owing new is refused) = refl
same_host (gives owing new told is took opened becomes) = refl
same_host (gives_last owing new is took closed) = refl

pub same_hosts : {moment : Option ℕ} {s t : Strand} → StrandMoves moment s t → t.side.host ≡ s.side.host
same_hosts stays = refl
same_hosts (goes_on rest last) = same_host last ∙ same_hosts rest

-- what is left of the session where this is left of a stream
abbrev pub left_by : ℕ → ℕ → LineFacts → List HostFacts → HostFacts → Strand → Served
left_by place at line hosts host t =
    serving t.known (with_side place t.side (record line { kept = t.kept })) (set hosts at (record host { ends = t.ends }))

nothing_left : (place at : ℕ) (known : Known Entry) (line : LineFacts) (hosts : List HostFacts) (side : Side) (host : HostFacts) → slice_get line.sides place ≡ Some side
    → slice_get hosts at ≡ Some host → serving known line hosts ≡ left_by place at line hosts host (strand known line.kept side host.ends)
nothing_left place at known line hosts side host is there =
    ap (λ (sides : List Side). serving known (record line { sides = sides }) hosts) (sym (set_same line.sides place side is))
    ∙ ap (λ (hs : List HostFacts). serving known (with_side place side line) hs) (sym (set_same hosts at host there))

left_again : (place at : ℕ) (line : LineFacts) (hosts : List HostFacts) (host : HostFacts) (u t : Strand)
    → left_by place at (record (with_side place u.side line) { kept = u.kept }) (set hosts at (record host { ends = u.ends })) (record host { ends = u.ends }) t ≡ left_by place at line hosts host t
left_again place at line hosts host u t =
    ap (λ (sides : List Side). serving t.known (record line { kept = t.kept; sides = sides }) (set (set hosts at (record host { ends = u.ends })) at (record host { ends = t.ends })))
    (set_twice line.sides place u.side t.side)
    ∙ ap (λ (hs : List HostFacts). serving t.known (with_side place t.side (record line { kept = t.kept })) hs) (set_twice hosts at (record host { ends = u.ends }) (record host { ends = t.ends }))

-- something more is done to a stream
pub on_strand_after : {Does : Strand → Strand → Type 0} (place at : ℕ) (line : LineFacts) (hosts : List HostFacts) (side : Side) (host : HostFacts) (u t : Strand)
    → slice_get line.sides place ≡ Some side → u.side.host ≡ Some at → slice_get hosts at ≡ Some host → Does u t
    → OnStrand Does place (left_by place at line hosts host u) (left_by place at line hosts host t)
on_strand_after {Does} place at line hosts side host u t is to there does =
    subst (λ (s : Served). OnStrand Does place (left_by place at line hosts host u) s) (left_again place at line hosts host u t)
    (on_strand u.side at (record host { ends = u.ends }) (got_set line.sides place side u.side is) to (got_set hosts at host (record host { ends = u.ends }) there) does)

lifted_from : {moment : Option ℕ} {s t : Strand} (place at : ℕ) (line : LineFacts) (hosts : List HostFacts) (side : Side) (host : HostFacts)
    → slice_get line.sides place ≡ Some side → s.side.host ≡ Some at → slice_get hosts at ≡ Some host
    → StrandMoves moment s t → Moves moment (left_by place at line hosts host s) (left_by place at line hosts host t)
lifted_from place at line hosts side host is to there stays = none
lifted_from place at line hosts side host is to there (goes_on rest last) =
    more (lifted_from place at line hosts side host is to there rest)
    (on_stream place (on_strand_after place at line hosts side host _ _ is (same_hosts rest ∙ to) there last))

pub lifted : {moment : Option ℕ} (place at : ℕ) (line : LineFacts) (hosts : List HostFacts) (side : Side) (host : HostFacts) (known : Known Entry) (t : Strand)
    → slice_get line.sides place ≡ Some side → side.host ≡ Some at → slice_get hosts at ≡ Some host
    → StrandMoves moment (strand known line.kept side host.ends) t → Moves moment (serving known line hosts) (left_by place at line hosts host t)
lifted {moment} place at line hosts side host known t is to there moves =
    subst (λ (s : Served). Moves moment s (left_by place at line hosts host t)) (sym (nothing_left place at known line hosts side host is there))
    (lifted_from place at line hosts side host is to there moves)

-- ---- each stream was opened

pub opened_there : (sides : List Side) (place : ℕ) (side : Side) → AreOpened sides → side.stage ≢ stages.Unopened → AreOpened (set sides place side)
opened_there sides place side opened this at x is = by (got_changed sides place at side x is)
  where
    by : (side ≡ x) ⊎ (slice_get sides at ≡ Some x) → x.stage ≢ stages.Unopened
    by (inl same) = subst (λ (y : Side). y.stage ≢ stages.Unopened) same this
    by (inr before) = opened at x before

pub opened_more : (sides : List Side) (side : Side) → AreOpened sides → side.stage ≢ stages.Unopened → AreOpened (sides ++ side ∷ [])
opened_more sides side opened this at x is = by (got_more sides at side x is)
  where
    by : (side ≡ x) ⊎ (slice_get sides at ≡ Some x) → x.stage ≢ stages.Unopened
    by (inl same) = subst (λ (y : Side). y.stage ≢ stages.Unopened) same this
    by (inr before) = opened at x before
