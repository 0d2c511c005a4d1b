-- Moves of the pump for a session, with all its streams.
use Rattle.std.proofs.Common.{◌≡◌, ◌≢◌, ◌⊎◌, ◌<◌, ◌+◌, ℕ, zero, suc, Bool, true, false, List, [], ◌∷◌, ◌++◌, length, set, Option, Some, None, IfSome, Result, Ok, Err, refl, sym, ◌∙◌, ap, subst, inl, inr, append-nil, eq-eqb, ne_eqb, arith, true≢false}
use Rattle.std.specs.Prelude.{⊤, ◌||◌, ◌==◌, option_to_list, slice_get}
use Rattle.std.specs.List.{list_any}
use Rattle.std.specs.declared.alloc.AllocError.{AllocError}
use Rattle.bosh_types.specs.Limits.{most_streams}
use Rattle.bosh_types.specs.declared.ending.Closing.TheVariants.{RemoteConnectionFailed}
use Rattle.bosh_types.specs.declared.inward.Inward.{Inward}
use Rattle.bosh_types.specs.declared.inward.Inward.TheVariants as inward
use Rattle.parked_gate.specs.Passes.{Known}
use Rattle.session_journal.specs.declared.call.Call.{Call}
use Rattle.session_journal.specs.declared.call.Call.TheVariants as calls
use Rattle.session_journal.specs.declared.call.Reply.{Reply}
use Rattle.session_journal.specs.declared.call.Reply.TheVariants as replies
use Rattle.session_journal.specs.declared.entry.Entry.{Entry}
use Rattle.session_pump.specs.Calling.{Called}
use Rattle.session_pump.specs.Ends.{Ends}
use Rattle.session_pump.specs.Hosts.{HostFacts}
use Rattle.session_pump.specs.Sides.{HasNoHost, HasNowhere, IsNewSide, LineFacts, Move, Moves, MovesToTheEnd, OnStrand, PassesAll, Served, Serves, Strand, StrandMove, TellsCut, TriesAt, TriesEach, TriesOwed, asks_room, drops, finds_none, has_no_host, has_no_room, is_for, is_met, is_opening, is_unmet, meets, more, none, on_strand, on_stream, owes_nothing, owes_nowhere, refuses, serving, strand, strand_of, stream_of, takes, tells_nowhere, ticks, tried_none, tried_one, tries, wants_memory, was_given, was_met, with_side}
use Rattle.session_pump.specs.Taking.{is_full, lacks_room, looked}
use Rattle.session_pump.specs.Turns.{ClosesAt, ClosesBelow, ClosesWire, ClosesWires, closed_none, closed_one, is_open, isnt_open}
use Rattle.session_pump.specs.declared.line.Owing.{Owing}
use Rattle.session_pump.specs.declared.line.Side.{Side}
use Rattle.session_pump.specs.declared.line.Stage.{Stage}
use Rattle.session_pump.specs.declared.line.Stage.TheVariants as stages
use Rattle.xmpp_backend.specs.Told.{on_wire}
use Rattle.pump_laws.specs.CallsMade.{handed, CallMade, Handed, MadeBy, carried, opens, taken}
use Rattle.pump_laws.specs.Handing.{GaveOf, gave_nothing, told_in_turn}
use Rattle.pump_laws.specs.Passing.{CanFail, PassedOf, isnt_opened}
use Rattle.pump_laws.proofs.CallLemmas.{Carries, Hands, carries_call, err_gives_none, err_takes_none, gives_none, hands_on, hands_other, is_itself, one_more_made, takes_one}
use Rattle.pump_laws.proofs.KeepsLemmas.{AllLeave, HostTurn, Hosted, IdleAt, IsProper, IsProperSide, LineKeeps, NoneAt, NotMet, SideKeeps, WasBegun, all_same, all_then, any_at, any_first, any_last, got_other, got_put, host_at, host_put, leaves_ends, line_carries, none_left, none_some, same_of, same_or_apart, side_calls, side_kept, side_left, side_nowhere, some_same, turn_leaves, unmet_calls, unmet_left, unmet_on}
use Rattle.pump_laws.proofs.SideLemmas.{LetsGo, OwesOwn, Steps, closing_steps, item_taken, its_kept, kept_none, move_steps, not_for_opening, not_for_other, streams_apart, wire_of}
use Rattle.pump_laws.proofs.TakenLemmas.{carried_first, carried_more, opens_no_other, opens_not}

-- ---- sides by their place

-- a side of the same stream was put at this place
pub is_met_put : (q : ℕ) (sides : List Side) (place : ℕ) (side later : Side) → slice_get sides place ≡ Some side → later.stream ≡ side.stream → is_met q (set sides place later) ≡ is_met q sides
is_met_put q [] place side later is same = refl
is_met_put q (x ∷ xs) zero side later is same =
    ap (λ s. (s == q) || is_met q xs) (same ∙ sym (ap (λ (y : Side). y.stream) (same_of (Some x) x side refl is)))
is_met_put q (x ∷ xs) (suc place) side later is same = ap (λ b. (x.stream == q) || b) (is_met_put q xs place side later is same)

-- what stands at a place then is of the stream that stood there
pub record WasOf (sides : List Side) (p : ℕ) (x : Side) : Type 0 where
  pub before : Side
  pub is : slice_get sides p ≡ Some before
  pub of : x.stream ≡ before.stream

pub was_of : (sides : List Side) (place p : ℕ) (side later x : Side) → slice_get sides place ≡ Some side → later.stream ≡ side.stream → slice_get (set sides place later) p ≡ Some x → WasOf sides p x
was_of sides place p side later x there same is = by (same_or_apart p place)
  where
    by : (p ≡ place) ⊎ (p ≢ place) → WasOf sides p x
    by (inl at) = record {
      before = side;
      is = ap (slice_get sides) at ∙ there;
      of = ap (λ (y : Side). y.stream) (same_of (slice_get (set sides place later) p) x later is (ap (slice_get (set sides place later)) at ∙ got_put sides place side later there)) ∙ same;
    }
    by (inr apart) = record { before = x; is = sym (got_other sides place p later apart) ∙ is; of = refl }

-- a stream that wasn't met isn't that of a side
pub unmet_apart : (q : ℕ) (sides : List Side) (p : ℕ) (x : Side) → is_met q sides ≡ false → slice_get sides p ≡ Some x → x.stream ≢ q
unmet_apart q sides p x unmet is same = true≢false (sym (any_at (λ (side : Side). side.stream == q) sides p x is (eq-eqb x.stream q same)) ∙ unmet)

-- ---- the line goes on being that of its session

side_proper : (n : ℕ) (side later : Side) → later.stream ≡ side.stream → later.wire ≡ side.wire → (later.owed ≡ side.owed) ⊎ (later.owed ≡ None) → IsProperSide n side → IsProperSide n later
side_proper n side later stream wire owed p = record {
  wire = wire ∙ (p.wire ∙ ap (wire_of n) (sym stream));
  small = subst (λ q. q < most_streams) (sym stream) p.small;
  owes = by owed;
}
  where
    by : (later.owed ≡ side.owed) ⊎ (later.owed ≡ None) → OwesOwn later
    by (inl same) = subst (λ o. IfSome o (λ (owing : Owing). owing.stream ≡ later.stream)) (sym same)
        (subst (λ q. IfSome side.owed (λ (owing : Owing). owing.stream ≡ q)) (sym stream) p.owes)
    by (inr nothing) = subst (λ o. IfSome o (λ (owing : Owing). owing.stream ≡ later.stream)) (sym nothing) tt

-- where there is no place none is put
nothing_put : (sides : List Side) (place : ℕ) (later x : Side) → slice_get sides place ≡ None → slice_get (set sides place later) place ≡ Some x → ⊥
nothing_put [] place later x there is = none_some None x refl is
nothing_put (y ∷ ys) zero later x there is = none_some (Some y) y there refl
nothing_put (y ∷ ys) (suc place) later x there is = nothing_put ys place later x there is

pub put_proper : (n : ℕ) (line : LineFacts) (kept : Option Inward) (place : ℕ) (later : Side) → IsProperSide n later → IsProper n line → IsProper n (with_side place later (record line { kept = kept }))
put_proper n line kept place later side p = record { opening = p.opening; sides = λ q x is. by q x is (same_or_apart q place) }
  where
    by : (q : ℕ) (x : Side) → slice_get (set line.sides place later) q ≡ Some x → (q ≡ place) ⊎ (q ≢ place) → IsProperSide n x
    by q x is (inr apart) = p.sides q x (sym (got_other line.sides place q later apart) ∙ is)
    by q x is (inl at) = at_place (slice_get line.sides place) refl
      where
        at_place : (o : Option Side) → slice_get line.sides place ≡ o → IsProperSide n x
        at_place (Some was) there =
            subst (IsProperSide n) (same_of (slice_get (set line.sides place later) place) later x (got_put line.sides place was later there) (ap (slice_get (set line.sides place later)) (sym at) ∙ is)) side
        at_place None there = absurd (nothing_put line.sides place later x there (ap (slice_get (set line.sides place later)) (sym at) ∙ is))

kept_proper : (n : ℕ) (line : LineFacts) (kept : Option Inward) → IsProper n line → IsProper n (record line { kept = kept })
kept_proper n line kept p = record { opening = p.opening; sides = p.sides }

record AtEnd (sides : List Side) (side : Side) (p : ℕ) (x : Side) : Type 0 where
  place : p ≡ length sides
  is : side ≡ x

last_or_before : (sides : List Side) (side : Side) (p : ℕ) (x : Side) → slice_get (sides ++ side ∷ []) p ≡ Some x → AtEnd sides side p x ⊎ (slice_get sides p ≡ Some x)
last_or_before [] side zero x is = inl (record { place = refl; is = same_of (Some side) side x refl is })
last_or_before [] side (suc p) x is = absurd (none_some None x refl is)
last_or_before (y ∷ ys) side zero x is = inr is
last_or_before (y ∷ ys) side (suc p) x is = by (last_or_before ys side p x is)
  where
    by : AtEnd ys side p x ⊎ (slice_get ys p ≡ Some x) → AtEnd (y ∷ ys) side (suc p) x ⊎ (slice_get (y ∷ ys) (suc p) ≡ Some x)
    by (inl last) = inl (record { place = ap suc last.place; is = last.is })
    by (inr before) = inr before

pub new_proper : (n stream : ℕ) (to : List ℕ) (hosts : List HostFacts) (opening : ℕ) (side : Side) → opening ≡ n → IsNewSide opening stream to hosts side → IsProperSide n side
new_proper n stream to hosts opening side same new = record {
  wire = new.wire ∙ (ap (λ o. wire_of o stream) same ∙ ap (wire_of n) (sym new.of));
  small = subst (λ q. q < most_streams) (sym new.of) new.small;
  owes = subst (λ o. IfSome o (λ (owing : Owing). owing.stream ≡ side.stream)) (sym new.owed) tt;
}

strand_proper : (n place at : ℕ) (s : Served) (side : Side) (host : HostFacts) (t : Strand) → slice_get s.line.sides place ≡ Some side → Steps (strand_of s side host) t → IsProper n s.line
    → IsProper n (with_side place t.side (record s.line { kept = t.kept }))
strand_proper n place at s side host t is steps p =
    put_proper n s.line t.kept place t.side (side_proper n side t.side steps.stream steps.wire steps.owed (p.sides place side is)) p

pub move_proper : (moment : Option ℕ) (n : ℕ) (s t : Served) → Move moment s t → IsProper n s.line → IsProper n t.line
move_proper moment n s t (ticks new now result at c) p = p
move_proper moment n s t (takes new item empty c) p = kept_proper n s.line (Some item) p
move_proper moment n s t (finds_none new c) p = p
move_proper moment n s t (wants_memory new call error c) p = p
move_proper moment n s t (on_stream place (on_strand {t = u} side at host is to there does)) p =
    strand_proper n place at s side host u is (move_steps moment (strand_of s side host) u does (p.sides place side is).owes) p
move_proper moment n s t (meets stream to side kept unmet new stage) p = record { opening = p.opening; sides = λ q x is. by q x (last_or_before s.line.sides side q x is) }
  where
    by : (q : ℕ) (x : Side) → AtEnd s.line.sides side q x ⊎ (slice_get s.line.sides q ≡ Some x) → IsProperSide n x
    by q x (inl last) = subst (IsProperSide n) last.is (new_proper n stream to s.hosts s.line.opening side p.opening new)
    by q x (inr before) = p.sides q x before
move_proper moment n s t (tells_nowhere place side new now reply is unopened nowhere at c) p =
    put_proper n s.line s.line.kept place (record side { stage = stages.Lost }) (side_proper n side (record side { stage = stages.Lost }) refl refl (inl refl) (p.sides place side is)) p
move_proper moment n s t (drops item kept nowhere) p = kept_proper n s.line None p

pub closing_proper : (n place : ℕ) (s t : Served) (result : Result ⊤ AllocError) → OnStrand (λ a b. ClosesWire a b result) place s t → IsProper n s.line → IsProper n t.line
closing_proper n place s t result (on_strand {t = u} side at host is to there does) p = strand_proper n place at s side host u is (closing_steps (strand_of s side host) u result does) p

-- ---- what goes over other wires is as before

strand_leaves : (B : Type 0) (wire at : ℕ) (s : Served) (side : Side) (host : HostFacts) (t : Strand) → slice_get s.hosts at ≡ Some host → Steps (strand_of s side host) t → side.wire ≢ wire
    → AllLeave B wire (host_at s.hosts) (host_at (set s.hosts at (record host { ends = t.ends })))
strand_leaves B wire at s side host t there steps apart =
    turn_leaves B wire at host (record host { ends = t.ends }) (host_at s.hosts) (host_at (set s.hosts at (record host { ends = t.ends }))) (host_put s.hosts at host (record host { ends = t.ends }) there)
    (leaves_ends B wire host t.ends (steps.others wire apart))

pub move_leaves : (B : Type 0) (moment : Option ℕ) (m wire : ℕ) (s t : Served) → Move moment s t → IsProper m s.line → ((r : ℕ) → r < most_streams → wire_of m r ≢ wire)
    → AllLeave B wire (host_at s.hosts) (host_at t.hosts)
move_leaves B moment m wire s t (ticks new now result at c) p apart = all_same B wire (host_at s.hosts)
move_leaves B moment m wire s t (takes new item empty c) p apart = all_same B wire (host_at s.hosts)
move_leaves B moment m wire s t (finds_none new c) p apart = all_same B wire (host_at s.hosts)
move_leaves B moment m wire s t (wants_memory new call error c) p apart = all_same B wire (host_at s.hosts)
move_leaves B moment m wire s t (on_stream place (on_strand {t = u} side at host is to there does)) p apart =
    let q : IsProperSide m side = p.sides place side is in
    strand_leaves B wire at s side host u there (move_steps moment (strand_of s side host) u does q.owes) (λ same. apart side.stream q.small (sym q.wire ∙ same))
move_leaves B moment m wire s t (meets stream to side kept unmet new stage) p apart = all_same B wire (host_at s.hosts)
move_leaves B moment m wire s t (tells_nowhere place side new now reply is unopened nowhere at c) p apart = all_same B wire (host_at s.hosts)
move_leaves B moment m wire s t (drops item kept nowhere) p apart = all_same B wire (host_at s.hosts)

pub closing_leaves : (B : Type 0) (m wire place : ℕ) (s t : Served) (result : Result ⊤ AllocError) → OnStrand (λ a b. ClosesWire a b result) place s t → IsProper m s.line
    → ((r : ℕ) → r < most_streams → wire_of m r ≢ wire) → AllLeave B wire (host_at s.hosts) (host_at t.hosts)
closing_leaves B m wire place s t result (on_strand {t = u} side at host is to there does) p apart =
    let q : IsProperSide m side = p.sides place side is in
    strand_leaves B wire at s side host u there (closing_steps (strand_of s side host) u result does) (λ same. apart side.stream q.small (sym q.wire ∙ same))

-- ---- a step of one stream

-- the line of this session, at these hosts and after what its pass made
abbrev pub OwnKeeps : Type 0 → ℕ → Served → Type 0
OwnKeeps B n s = LineKeeps B n (host_at s.hosts) s.line s.known.mine

passed_as : (w v r q : ℕ) (xs ys : List Inward) (stage : Stage) (kept : Option Inward) (e f : Ends) → w ≡ v → r ≡ q → xs ≡ ys → e ≡ f
    → PassedOf w (carried r xs) stage (its_kept r kept) e → PassedOf v (carried q ys) stage (its_kept q kept) f
passed_as w v r q xs ys stage kept e f wire stream same ends it =
    subst (PassedOf v (carried q ys) stage (its_kept q kept)) ends
    (subst (λ all. PassedOf v (carried q all) stage (its_kept q kept) e) same
    (subst (λ (k : ℕ). PassedOf v (carried k xs) stage (its_kept k kept) e) stream
    (subst (λ (k : ℕ). PassedOf k (carried r xs) stage (its_kept r kept) e) wire it)))

gave_so : (w v : ℕ) (xs ys : List (List ℕ)) (stage : Stage) (owed : Option Owing) (h i : HostFacts) → w ≡ v → xs ≡ ys → h ≡ i
    → GaveOf w xs stage owed h.kept (told_in_turn w h.ends) → GaveOf v ys stage owed i.kept (told_in_turn v i.ends)
gave_so w v xs ys stage owed h i wire same hosts it =
    subst (λ (x : HostFacts). GaveOf v ys stage owed x.kept (told_in_turn v x.ends)) hosts
    (subst (λ all. GaveOf v all stage owed h.kept (told_in_turn v h.ends)) same
    (subst (λ (k : ℕ). GaveOf k xs stage owed h.kept (told_in_turn k h.ends)) wire it))

module _ (B : Type 0) (n place at : ℕ) (s : Served) (side : Side) (host : HostFacts) (t : Strand) (is : slice_get s.line.sides place ≡ Some side) (to : side.host ≡ Some at)
    (there : slice_get s.hosts at ≡ Some host) (steps : Steps (strand_of s side host) t) (proper : IsProper n s.line) (k : OwnKeeps B n s) where
  later_host : HostFacts
  later_host = record host { ends = t.ends }

  later_hosts : List HostFacts
  later_hosts = set s.hosts at (record host { ends = t.ends })

  turn : HostTurn at host (record host { ends = t.ends }) (host_at s.hosts) (host_at (set s.hosts at (record host { ends = t.ends })))
  turn = host_put s.hosts at host (record host { ends = t.ends }) there

  goes : Hands steps.gave k.calls t.known.mine
  goes = steps.brings k.calls k.made

  its_place : (q : ℕ) → t.side.host ≡ Some q → q ≡ at
  its_place q also = some_same q at (sym also ∙ (steps.host ∙ to))

  own_side : SideKeeps B (host_at s.hosts) k.calls s.line.kept side → SideKeeps B (host_at (set s.hosts at (record host { ends = t.ends }))) goes.calls t.kept t.side
  own_side o = record {
    begun = subst (λ q. WasBegun q (taken goes.calls)) (sym steps.stream) (subst (WasBegun side.stream) (sym goes.same) o.begun);
    here = λ q x got also few. its_here q x got also few;
    elsewhere = λ q x got away.
        let apart : q ≢ at = λ same. away (steps.host ∙ (to ∙ ap Some (sym same))) in
        subst (λ w. NoneAt B w x) (sym steps.wire) (o.elsewhere q x (sym (turn.others q apart) ∙ got) (λ same. away (steps.host ∙ same)));
    gives = λ q x got also b. its_gives q x got also b;
  }
    where
      its : (q : ℕ) (x : HostFacts) → host_at (set s.hosts at (record host { ends = t.ends })) q ≡ Some x → t.side.host ≡ Some q → record host { ends = t.ends } ≡ x
      its q x got also = same_of (host_at (set s.hosts at (record host { ends = t.ends })) at) (record host { ends = t.ends }) x turn.is
          (ap (host_at (set s.hosts at (record host { ends = t.ends }))) (sym (its_place q also)) ∙ got)

      its_here : (q : ℕ) (x : HostFacts) → host_at (set s.hosts at (record host { ends = t.ends })) q ≡ Some x → t.side.host ≡ Some q → CanFail x.ends
          → PassedOf t.side.wire (carried t.side.stream (taken goes.calls)) t.side.stage (its_kept t.side.stream t.kept) x.ends
      its_here q x got also few =
          let it : record host { ends = t.ends } ≡ x = its q x got also in
          passed_as side.wire t.side.wire side.stream t.side.stream (taken k.calls) (taken goes.calls) t.side.stage t.kept t.ends x.ends (sym steps.wire) (sym steps.stream) (sym goes.same)
          (ap (λ (h : HostFacts). h.ends) it)
          (steps.passed (carried side.stream (taken k.calls)) (subst (λ (h : HostFacts). CanFail h.ends) (sym it) few) (λ less. o.here at host there to less))

      its_gives : (q : ℕ) (x : HostFacts) → host_at (set s.hosts at (record host { ends = t.ends })) q ≡ Some x → t.side.host ≡ Some q → B
          → GaveOf t.side.wire (handed t.side.stream goes.calls) t.side.stage t.side.owed x.kept (told_in_turn t.side.wire x.ends)
      its_gives q x got also b =
          gave_so side.wire t.side.wire (handed side.stream k.calls ++ on_wire side.stream steps.gave) (handed t.side.stream goes.calls) t.side.stage t.side.owed (record host { ends = t.ends }) x
          (sym steps.wire)
          (sym (hands_on side.stream steps.gave k.calls t.known.mine goes) ∙ ap (λ q. handed q goes.calls) (sym steps.stream))
          (its q x got also)
          (steps.gives (handed side.stream k.calls) host.kept (o.gives at host there to b))

  leaves : (wire : ℕ) → side.wire ≢ wire → AllLeave B wire (host_at s.hosts) (host_at (set s.hosts at (record host { ends = t.ends })))
  leaves wire apart = strand_leaves B wire at s side host t there steps apart

  -- what is kept for another stream
  kept_still : (q : ℕ) → side.stream ≢ q → its_kept q t.kept ≡ its_kept q s.line.kept
  kept_still q apart = by steps.kept
    where
      by : (t.kept ≡ s.line.kept) ⊎ LetsGo (strand_of s side host) t → its_kept q t.kept ≡ its_kept q s.line.kept
      by (inl same) = ap (its_kept q) same
      by (inr lets) = ap (its_kept q) lets.is ∙ sym (kept_none q s.line.kept lets.item lets.was (not_for_other q lets.item (λ same. apart (sym lets.of ∙ same))))

  other_side : (x : Side) → IsProperSide n x → side.stream ≢ x.stream → SideKeeps B (host_at s.hosts) k.calls s.line.kept x
      → SideKeeps B (host_at (set s.hosts at (record host { ends = t.ends }))) goes.calls t.kept x
  other_side x p apart o =
      let away : side.wire ≢ x.wire = λ same. streams_apart n x.stream side.stream apart (sym (proper.sides place side is).wire ∙ (same ∙ p.wire)) in
      side_kept B (host_at (set s.hosts at (record host { ends = t.ends }))) goes.calls s.line.kept t.kept x (kept_still x.stream apart)
      (side_left B (host_at s.hosts) (host_at (set s.hosts at (record host { ends = t.ends }))) goes.calls s.line.kept x (leaves x.wire away)
      (side_calls B (host_at s.hosts) k.calls goes.calls s.line.kept x goes.same (hands_other x.stream steps.gave k.calls t.known.mine goes (steps.apart x.stream apart)) o))

  unmet_still : (q : ℕ) → side.stream ≢ q → NotMet B (host_at s.hosts) n q k.calls s.line.kept → NotMet B (host_at (set s.hosts at (record host { ends = t.ends }))) n q goes.calls t.kept
  unmet_still q apart m = by steps.kept
    where
      away : side.wire ≢ wire_of n q
      away same = streams_apart n q side.stream apart (sym (proper.sides place side is).wire ∙ same)

      moved : NotMet B (host_at (set s.hosts at (record host { ends = t.ends }))) n q goes.calls s.line.kept
      moved = unmet_left B (host_at s.hosts) (host_at (set s.hosts at (record host { ends = t.ends }))) n q goes.calls s.line.kept (leaves (wire_of n q) away)
          (unmet_calls B (host_at s.hosts) n q k.calls goes.calls s.line.kept goes.same (hands_other q steps.gave k.calls t.known.mine goes (steps.apart q apart)) m)

      by : (t.kept ≡ s.line.kept) ⊎ LetsGo (strand_of s side host) t → NotMet B (host_at (set s.hosts at (record host { ends = t.ends }))) n q goes.calls t.kept
      by (inl same) = subst (NotMet B (host_at (set s.hosts at (record host { ends = t.ends }))) n q goes.calls) (sym same) moved
      by (inr lets) = subst (NotMet B (host_at (set s.hosts at (record host { ends = t.ends }))) n q goes.calls) (sym lets.is)
          (unmet_on B (host_at (set s.hosts at (record host { ends = t.ends }))) n q goes.calls s.line.kept lets.item lets.was (opens_not q lets.item lets.passes) moved)

  pub strand_keeps : LineKeeps B n (host_at (set s.hosts at (record host { ends = t.ends }))) (with_side place t.side (record s.line { kept = t.kept })) t.known.mine
  strand_keeps = record {
    calls = goes.calls;
    made = goes.by_these;
    zeroth = is_met_put 0 s.line.sides place side t.side is steps.stream ∙ k.zeroth;
    once = λ p q x y at_p at_q same.
        let a : WasOf s.line.sides p x = was_of s.line.sides place p side t.side x is steps.stream at_p in
        let b : WasOf s.line.sides q y = was_of s.line.sides place q side t.side y is steps.stream at_q in
        k.once p q a.before b.before a.is b.is (sym a.of ∙ (same ∙ b.of));
    has = λ p x got. its_side p x got (same_or_apart p place);
    hasnt = λ q small unmet.
        let was : is_met q s.line.sides ≡ false = sym (is_met_put q s.line.sides place side t.side is steps.stream) ∙ unmet in
        unmet_still q (unmet_apart q s.line.sides place side was is) (k.hasnt q small was);
  }
    where
      its_side : (p : ℕ) (x : Side) → slice_get (set s.line.sides place t.side) p ≡ Some x → (p ≡ place) ⊎ (p ≢ place)
          → SideKeeps B (host_at (set s.hosts at (record host { ends = t.ends }))) goes.calls t.kept x
      its_side p x got (inl same) =
          subst (SideKeeps B (host_at (set s.hosts at (record host { ends = t.ends }))) goes.calls t.kept)
          (same_of (slice_get (set s.line.sides place t.side) place) t.side x (got_put s.line.sides place side t.side is) (ap (slice_get (set s.line.sides place t.side)) (sym same) ∙ got))
          (own_side (k.has place side is))
      its_side p x got (inr apart) =
          let before : slice_get s.line.sides p ≡ Some x = sym (got_other s.line.sides place p t.side apart) ∙ got in
          other_side x (proper.sides p x before) (λ same. apart (sym (k.once place p side x is before same))) (k.has p x before)

-- ---- the other moves

-- the next item is taken, and kept
taken_keeps : (B : Type 0) (n : ℕ) (s : Served) (new : Known Entry) (item : Inward) → s.line.kept ≡ None → Called calls.TakeInward (Ok (replies.TakeInward (Some item))) s.known new → OwnKeeps B n s
    → OwnKeeps B n (record s { known = new; line = record s.line { kept = Some item } })
taken_keeps B n s new item empty c k = record {
  calls = more_calls;
  made = one_more_made k.calls calls.TakeInward (Ok (replies.TakeInward (Some item))) s.known new k.made c;
  zeroth = k.zeroth;
  once = k.once;
  has = λ p x is. its_side x (k.has p x is);
  hasnt = λ q small unmet. its_unmet q (k.hasnt q small unmet);
}
  where
    more_calls : List CallMade
    more_calls = k.calls ++ (calls.TakeInward, Ok (replies.TakeInward (Some item))) ∷ []

    took : taken more_calls ≡ taken k.calls ++ item ∷ []
    took = takes_one k.calls calls.TakeInward (Ok (replies.TakeInward (Some item))) item refl

    gave : (q : ℕ) → handed q more_calls ≡ handed q k.calls
    gave q = ap (on_wire q) (gives_none k.calls calls.TakeInward (Ok (replies.TakeInward (Some item))) refl)

    begun_more : (q : ℕ) → WasBegun q (taken k.calls) → WasBegun q (taken more_calls)
    begun_more q (inl zeroth) = inl zeroth
    begun_more q (inr any) = inr (ap (list_any (opens q)) took ∙ any_first (opens q) (taken k.calls) (item ∷ []) any)

    its_side : (x : Side) → SideKeeps B (host_at s.hosts) k.calls s.line.kept x → SideKeeps B (host_at s.hosts) more_calls (Some item) x
    its_side x o = record {
      begun = begun_more x.stream o.begun;
      here = λ place host is at few.
          subst (λ all. PassedOf x.wire all x.stage (its_kept x.stream (Some item)) host.ends)
          (sym (ap (carried x.stream) took ∙ carried_more x.stream (taken k.calls) (item ∷ []) o.begun))
          (item_taken x.wire (carried x.stream (taken k.calls)) (its_kept x.stream (Some item)) x.stage host.ends
          (subst (λ o. PassedOf x.wire (carried x.stream (taken k.calls)) x.stage (its_kept x.stream o) host.ends) empty (o.here place host is at few)));
      elsewhere = o.elsewhere;
      gives = λ place host is at b. subst (λ all. GaveOf x.wire all x.stage x.owed host.kept (told_in_turn x.wire host.ends)) (sym (gave x.stream)) (o.gives place host is at b);
    }

    its_unmet : (q : ℕ) → NotMet B (host_at s.hosts) n q k.calls s.line.kept → NotMet B (host_at s.hosts) n q more_calls (Some item)
    its_unmet q m = record {
      nothing = m.nothing;
      earlier = taken k.calls;
      are = took;
      unopened = ap (list_any (opens q)) (m.are ∙ (ap (λ o. m.earlier ++ option_to_list o) empty ∙ append-nil m.earlier)) ∙ m.unopened;
      unhanded = λ b. gave q ∙ m.unhanded b;
    }

-- a stream is met
met_keeps : (B : Type 0) (n : ℕ) (s : Served) (stream : ℕ) (to : List ℕ) (side : Side) → s.line.kept ≡ Some (inward.Open stream to) → is_met stream s.line.sides ≡ false
    → IsNewSide s.line.opening stream to s.hosts side → side.stage ≡ stages.Unopened → IsProper n s.line → OwnKeeps B n s
    → OwnKeeps B n (record s { line = record s.line { kept = None; sides = s.line.sides ++ side ∷ [] } })
met_keeps B n s stream to side kept unmet new stage proper k = record {
  calls = k.calls;
  made = k.made;
  zeroth = any_first (λ (x : Side). x.stream == 0) s.line.sides (side ∷ []) k.zeroth;
  once = λ p q x y at_p at_q same. its_once p q x y (last_or_before s.line.sides side p x at_p) (last_or_before s.line.sides side q y at_q) same;
  has = λ p x is. its_side p x (last_or_before s.line.sides side p x is);
  hasnt = λ q small lacks. its_unmet q small lacks;
}
  where
    its_once : (p q : ℕ) (x y : Side) → AtEnd s.line.sides side p x ⊎ (slice_get s.line.sides p ≡ Some x) → AtEnd s.line.sides side q y ⊎ (slice_get s.line.sides q ≡ Some y)
        → x.stream ≡ y.stream → p ≡ q
    its_once p q x y (inl last) (inl also) same = last.place ∙ sym also.place
    its_once p q x y (inl last) (inr before) same =
        absurd (unmet_apart stream s.line.sides q y unmet before (sym same ∙ (ap (λ (z : Side). z.stream) (sym last.is) ∙ new.of)))
    its_once p q x y (inr before) (inl last) same =
        absurd (unmet_apart stream s.line.sides p x unmet before (same ∙ (ap (λ (z : Side). z.stream) (sym last.is) ∙ new.of)))
    its_once p q x y (inr before) (inr also) same = k.once p q x y before also same

    zero_apart : stream ≢ 0
    zero_apart same = true≢false (sym k.zeroth ∙ subst (λ q. is_met q s.line.sides ≡ false) same unmet)

    not_met : NotMet B (host_at s.hosts) n stream k.calls s.line.kept
    not_met = k.hasnt stream new.small unmet

    whole : taken k.calls ≡ not_met.earlier ++ inward.Open stream to ∷ []
    whole = not_met.are ∙ ap (λ o. not_met.earlier ++ option_to_list o) kept

    nothing_carried : carried stream (taken k.calls) ≡ []
    nothing_carried = ap (carried stream) whole ∙ carried_first stream not_met.earlier (inward.Open stream to) zero_apart not_met.unopened (is_itself stream)

    its_wire : side.wire ≡ wire_of n stream
    its_wire = new.wire ∙ ap (λ o. wire_of o stream) proper.opening

    new_side : SideKeeps B (host_at s.hosts) k.calls None side
    new_side = record {
      begun = inr (ap (λ q. list_any (opens q) (taken k.calls)) new.of ∙ (ap (list_any (opens stream)) whole ∙ any_last (opens stream) not_met.earlier (inward.Open stream to) (is_itself stream)));
      here = λ place host is at few. isnt_opened stage (none_there place host is).passed (ap (λ q. carried q (taken k.calls)) new.of ∙ nothing_carried);
      elsewhere = λ place host is away. none_there place host is;
      gives = λ place host is at b.
          let i : IdleAt side.wire host = (none_there place host is).given b in
          gave_nothing stage i.idle (ap (λ q. handed q k.calls) new.of ∙ not_met.unhanded b) new.owed i.none;
    }
      where
        none_there : (place : ℕ) (host : HostFacts) → host_at s.hosts place ≡ Some host → NoneAt B side.wire host
        none_there place host is = subst (λ w. NoneAt B w host) (sym its_wire) (not_met.nothing place host is)

    its_side : (p : ℕ) (x : Side) → AtEnd s.line.sides side p x ⊎ (slice_get s.line.sides p ≡ Some x) → SideKeeps B (host_at s.hosts) k.calls None x
    its_side p x (inl last) = subst (SideKeeps B (host_at s.hosts) k.calls None) last.is new_side
    its_side p x (inr before) =
        side_kept B (host_at s.hosts) k.calls s.line.kept None x (sym (kept_none x.stream s.line.kept (inward.Open stream to) kept refl)) (k.has p x before)

    before_end : (q : ℕ) → is_met q (s.line.sides ++ side ∷ []) ≡ false → is_met q s.line.sides ≡ false
    before_end q lacks = by (is_met q s.line.sides) refl
      where
        by : (b : Bool) → is_met q s.line.sides ≡ b → is_met q s.line.sides ≡ false
        by false is = is
        by true is = absurd (true≢false (sym (any_first (λ (x : Side). x.stream == q) s.line.sides (side ∷ []) is) ∙ lacks))

    its_unmet : (q : ℕ) → q < most_streams → is_met q (s.line.sides ++ side ∷ []) ≡ false → NotMet B (host_at s.hosts) n q k.calls None
    its_unmet q small lacks =
        unmet_on B (host_at s.hosts) n q k.calls s.line.kept (inward.Open stream to) kept
        (ne_eqb stream q (λ same. true≢false (sym (any_last (λ (x : Side). x.stream == q) s.line.sides side (eq-eqb side.stream q (new.of ∙ same))) ∙ lacks)))
        (k.hasnt q small (before_end q lacks))

-- the session is told that a stream has no host
nowhere_keeps : (B : Type 0) (n place : ℕ) (s : Served) (side : Side) → slice_get s.line.sides place ≡ Some side → HasNoHost s.hosts side → OwnKeeps B n s
    → OwnKeeps B n (record s { line = with_side place (record side { stage = stages.Lost }) s.line })
nowhere_keeps B n place s side is nowhere k = record {
  calls = k.calls;
  made = k.made;
  zeroth = is_met_put 0 s.line.sides place side (record side { stage = stages.Lost }) is refl ∙ k.zeroth;
  once = λ p q x y at_p at_q same.
      let a : WasOf s.line.sides p x = was_of s.line.sides place p side (record side { stage = stages.Lost }) x is refl at_p in
      let b : WasOf s.line.sides q y = was_of s.line.sides place q side (record side { stage = stages.Lost }) y is refl at_q in
      k.once p q a.before b.before a.is b.is (sym a.of ∙ (same ∙ b.of));
  has = λ p x got. its_side p x got (same_or_apart p place);
  hasnt = λ q small unmet. k.hasnt q small (sym (is_met_put q s.line.sides place side (record side { stage = stages.Lost }) is refl) ∙ unmet);
}
  where
    its_side : (p : ℕ) (x : Side) → slice_get (set s.line.sides place (record side { stage = stages.Lost })) p ≡ Some x → (p ≡ place) ⊎ (p ≢ place) → SideKeeps B (host_at s.hosts) k.calls s.line.kept x
    its_side p x got (inl same) =
        subst (SideKeeps B (host_at s.hosts) k.calls s.line.kept)
        (same_of (slice_get (set s.line.sides place (record side { stage = stages.Lost })) place) (record side { stage = stages.Lost }) x
        (got_put s.line.sides place side (record side { stage = stages.Lost }) is) (ap (slice_get (set s.line.sides place (record side { stage = stages.Lost }))) (sym same) ∙ got))
        (side_nowhere B s.hosts k.calls s.line.kept s.line.kept side stages.Lost nowhere (k.has place side is))
    its_side p x got (inr apart) = k.has p x (sym (got_other s.line.sides place p (record side { stage = stages.Lost }) apart) ∙ got)

-- what is kept is for nobody
dropped_keeps : (B : Type 0) (n : ℕ) (s : Served) (item : Inward) → s.line.kept ≡ Some item
    → ((p : ℕ) (x : Side) → slice_get s.line.sides p ≡ Some x → (is_for x.stream item ≡ false) ⊎ HasNoHost s.hosts x)
    → ((q : ℕ) → is_met q s.line.sides ≡ false → opens q item ≡ false) → OwnKeeps B n s → OwnKeeps B n (record s { line = record s.line { kept = None } })
dropped_keeps B n s item kept goes_nowhere opens_none k = record {
  calls = k.calls;
  made = k.made;
  zeroth = k.zeroth;
  once = k.once;
  has = λ p x is. its_side x (goes_nowhere p x is) (k.has p x is);
  hasnt = λ q small unmet. unmet_on B (host_at s.hosts) n q k.calls s.line.kept item kept (opens_none q unmet) (k.hasnt q small unmet);
}
  where
    its_side : (x : Side) → (is_for x.stream item ≡ false) ⊎ HasNoHost s.hosts x → SideKeeps B (host_at s.hosts) k.calls s.line.kept x → SideKeeps B (host_at s.hosts) k.calls None x
    its_side x (inl not_for) o = side_kept B (host_at s.hosts) k.calls s.line.kept None x (sym (kept_none x.stream s.line.kept item kept not_for)) o
    its_side x (inr nowhere) o = side_nowhere B s.hosts k.calls s.line.kept None x x.stage nowhere o

drops_keep : (B : Type 0) (n : ℕ) (s : Served) (item : Inward) → s.line.kept ≡ Some item → HasNowhere s item → OwnKeeps B n s → OwnKeeps B n (record s { line = record s.line { kept = None } })
drops_keep B n s item kept (was_met opening met) k =
    dropped_keeps B n s item kept (λ p x is. inl (not_for_opening x.stream item opening))
    (λ q unmet. opens_no_other q item (λ same. true≢false (sym met ∙ subst (λ r. is_met r s.line.sides ≡ false) (sym same) unmet))) k
drops_keep B n s item kept (is_unmet passing unmet) k =
    dropped_keeps B n s item kept (λ p x is. inl (not_for_other x.stream item (λ same. unmet_apart (stream_of item) s.line.sides p x unmet is (sym same))))
    (λ q lacks. opens_not q item passing) k
drops_keep B n s item kept (has_no_host place side passing there of nowhere opened) k =
    dropped_keeps B n s item kept (λ p x is. by p x is (same_or_apart (stream_of item) x.stream)) (λ q lacks. opens_not q item passing) k
  where
    by : (p : ℕ) (x : Side) → slice_get s.line.sides p ≡ Some x → (stream_of item ≡ x.stream) ⊎ (stream_of item ≢ x.stream) → (is_for x.stream item ≡ false) ⊎ HasNoHost s.hosts x
    by p x is (inr apart) = inl (not_for_other x.stream item apart)
    by p x is (inl same) =
        let at : place ≡ p = k.once place p side x there is (of ∙ same) in
        inr (subst (HasNoHost s.hosts) (same_of (slice_get s.line.sides p) side x (ap (slice_get s.line.sides) (sym at) ∙ there) is) nowhere)

carried_keeps : (B : Type 0) (n : ℕ) (s : Served) (new : Known Entry) → Carries s.known new → OwnKeeps B n s → OwnKeeps B n (record s { known = new })
carried_keeps B n s new carries k = line_carries B n (host_at s.hosts) s.line s.known.mine new.mine carries k

pub move_keeps : (B : Type 0) (moment : Option ℕ) (n : ℕ) (s t : Served) → Move moment s t → IsProper n s.line → OwnKeeps B n s → OwnKeeps B n t
move_keeps B moment n s t (ticks new now result at c) p k = carried_keeps B n s new (carries_call (calls.Tick now) result s.known new refl refl c) k
move_keeps B moment n s t (takes new item empty c) p k = taken_keeps B n s new item empty c k
move_keeps B moment n s t (finds_none new c) p k = carried_keeps B n s new (carries_call calls.TakeInward (Ok (replies.TakeInward None)) s.known new refl refl c) k
move_keeps B moment n s t (wants_memory new call error c) p k =
    carried_keeps B n s new (carries_call call (Err error) s.known new (err_takes_none call error) (err_gives_none call error) c) k
move_keeps B moment n s t (on_stream place (on_strand {t = u} side at host is to there does)) p k =
    strand_keeps B n place at s side host u is to there (move_steps moment (strand_of s side host) u does (p.sides place side is).owes) p k
move_keeps B moment n s t (meets stream to side kept unmet new stage) p k = met_keeps B n s stream to side kept unmet new stage p k
move_keeps B moment n s t (tells_nowhere place side new now reply is unopened nowhere at c) p k =
    nowhere_keeps B n place (record s { known = new }) side is nowhere
    (carried_keeps B n s new (carries_call (calls.BackClosed side.stream RemoteConnectionFailed now) (Ok reply) s.known new refl refl c) k)
move_keeps B moment n s t (drops item kept nowhere) p k = drops_keep B n s item kept nowhere k

pub closing_keeps : (B : Type 0) (n place : ℕ) (s t : Served) (result : Result ⊤ AllocError) → OnStrand (λ a b. ClosesWire a b result) place s t → IsProper n s.line → OwnKeeps B n s → OwnKeeps B n t
closing_keeps B n place s t result (on_strand {t = u} side at host is to there does) p k =
    strand_keeps B n place at s side host u is to there (closing_steps (strand_of s side host) u result does) p k

-- ---- rows of moves

-- what each move keeps, and the closing of a wire too, is kept by all that is done for a session
pub record IsKept (moment : Option ℕ) (P : Served → Type 0) : Type 0 where
  pub by_moves : (s t : Served) → Move moment s t → P s → P t
  pub by_closing : (place : ℕ) (s t : Served) (result : Result ⊤ AllocError) → OnStrand (λ a b. ClosesWire a b result) place s t → P s → P t

module _ (moment : Option ℕ) (P : Served → Type 0) (kept : IsKept moment P) where
  pub moves_keep : (s t : Served) → Moves moment s t → P s → P t
  moves_keep s t none p = p
  moves_keep s t (more {t = u} moves move) p = kept.by_moves u t move (moves_keep s u moves p)

  to_the_end : (s t : Served) → MovesToTheEnd moment s t → P s → P t
  to_the_end s t m p = subst P (sym m.same) (kept.by_moves m.last (record m.last { known = t.known }) (finds_none t.known m.called) (moves_keep s m.last m.moves p))

  pub passes_all_keep : (s t : Served) (result : Result ⊤ AllocError) → PassesAll moment s t result → P s → P t
  passes_all_keep s t (Ok done) m p = to_the_end s t m p
  passes_all_keep s t (Err error) m p = moves_keep s t m p

  owed_move : (s t : Strand) → TriesOwed moment s t → StrandMove moment s t
  owed_move s t (was_given owing owes move rid) = move
  owed_move s t (has_no_room owing new owes (is_full once)) = refuses owing new owes once
  owed_move s t (has_no_room owing new owes (lacks_room l)) =
      asks_room owing new owes (looked (record { begins = l.begins; says = tt; mine = l.mine; earlier = l.earlier; learnt = l.learnt }))

  tries_keep : (place : ℕ) (s t : Served) → TriesAt moment place s t → P s → P t
  tries_keep place s t (owes_nothing side is empty) p = p
  tries_keep place s t (owes_nowhere side is nowhere) p = p
  tries_keep place s t (tries (on_strand {t = u} side at host is to there does)) p =
      kept.by_moves s _ (on_stream place (on_strand side at host is to there (owed_move (strand_of s side host) u does))) p

  each_keeps : (s : Served) (count : ℕ) (t : Served) → TriesEach moment s count t → P s → P t
  each_keeps s count t tried_none p = p
  each_keeps s count t (tried_one {t = u} place before last) p = tries_keep place u t last (each_keeps s place u before p)

  pub serves_keep : (s t : Served) (result : Result ⊤ AllocError) → Serves moment s t result → P s → P t
  serves_keep s t (Err error) m p = moves_keep s t m p
  serves_keep s t (Ok done) m p =
      to_the_end m.tried t m.passes
      (each_keeps (record m.first { known = m.later }) (length m.first.line.sides) m.tried m.tries
      (kept.by_moves m.first (record m.first { known = m.later }) (ticks m.later m.now (Ok m.reply) m.at m.ticks) (moves_keep s m.first m.opens p)))

  pub tells_keep : (s t : Served) (result : Result ⊤ AllocError) → TellsCut moment s t result → P s → P t
  tells_keep s t (Ok done) (moves, uncut) p = moves_keep s t moves p
  tells_keep s t (Err error) moves p = moves_keep s t moves p

  closes_at : (place : ℕ) (s t : Served) (result : Result ⊤ AllocError) → ClosesAt place s t result → P s → P t
  closes_at place s t result (isnt_open side is shut) p = p
  closes_at place s t result (is_open does) p = kept.by_closing place s t result does p

  closes_below : (s : Served) (count : ℕ) (t : Served) → ClosesBelow s count t → P s → P t
  closes_below s count t closed_none p = p
  closes_below s count t (closed_one {t = u} place before last) p = closes_at place u t (Ok tt) last (closes_below s place u before p)

  pub closes_keep : (s t : Served) (result : Result ⊤ AllocError) → ClosesWires s t result → P s → P t
  closes_keep s t (Ok done) closed p = closes_below s (length s.line.sides) t closed p
  closes_keep s t (Err error) (place, mid, wanted, before, last) p = closes_at place mid t (Err wanted) last (closes_below s place mid before p)

-- for this session
pub record Own (B : Type 0) (n : ℕ) (s : Served) : Type 0 where
  pub proper : IsProper n s.line
  pub keeps : OwnKeeps B n s

pub own_is_kept : (moment : Option ℕ) (B : Type 0) (n : ℕ) → IsKept moment (Own B n)
own_is_kept moment B n = record {
  by_moves = λ s t move o. record { proper = move_proper moment n s t move o.proper; keeps = move_keeps B moment n s t move o.proper o.keeps };
  by_closing = λ place s t result does o. record { proper = closing_proper n place s t result does o.proper; keeps = closing_keeps B n place s t result does o.proper o.keeps };
}

-- for another one: of the wires of this one nothing changed
pub record Other (B : Type 0) (n m : ℕ) (hosts : List HostFacts) (s : Served) : Type 0 where
  pub proper : IsProper m s.line
  pub leaves : (q : ℕ) → q < most_streams → AllLeave B (wire_of n q) (host_at hosts) (host_at s.hosts)

pub other_is_kept : (moment : Option ℕ) (B : Type 0) (n m : ℕ) (hosts : List HostFacts)
    → ((q r : ℕ) → q < most_streams → r < most_streams → wire_of m r ≢ wire_of n q) → IsKept moment (Other B n m hosts)
other_is_kept moment B n m hosts apart = record {
  by_moves = λ s t move o. record {
    proper = move_proper moment m s t move o.proper;
    leaves = λ q small. all_then B (wire_of n q) (host_at hosts) (host_at s.hosts) (host_at t.hosts) (o.leaves q small)
        (move_leaves B moment m (wire_of n q) s t move o.proper (λ r also. apart q r small also));
  };
  by_closing = λ place s t result does o. record {
    proper = closing_proper m place s t result does o.proper;
    leaves = λ q small. all_then B (wire_of n q) (host_at hosts) (host_at s.hosts) (host_at t.hosts) (o.leaves q small)
        (closing_leaves B m (wire_of n q) place s t result does o.proper (λ r also. apart q r small also));
  };
}
