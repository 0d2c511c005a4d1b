-- Whatever a line does to a manager, the report goes on telling of its sessions.
use Rattle.std.proofs.Common.{◌≡◌, ℕ, suc, ◌+◌, ◌<◌, ◌≤◌, ◌==◌, Bool, true, false, List, [], ◌∷◌, ◌++◌, All, Option, Some, None, length, drop, take, map, refl, sym, subst, ◌∙◌, ap, arith, cond, if◌then◌else◌}
use Rattle.std.specs.Prelude.{filter, count_by, ◌&&◌, nat_lt, slice_get, IsTrue, Result, Ok, Err}
use Rattle.std.specs.Result.{result_ok}
use Rattle.std.proofs.lemmas.Bool.{ltb-true}
use Rattle.std.proofs.lemmas.List.{append-nil}
use Rattle.std.proofs.lemmas.List.Elements.{All-nil, All-cons, All-map, All-weaker}
use Rattle.bosh_types.specs.Limits.{most_sessions, most_openings}
use Rattle.bosh_types.specs.Rid.{rid_of}
use Rattle.bosh_types.specs.declared.hosts.HostName.{HostName}
use Rattle.bosh_types.proofs.RidLemmas.{rid_of-IsRid}
use Rattle.body_cutter.specs.declared.parts.Cut.{Cut}
use Rattle.body_cutter.specs.Cutting.{body_cut_of}
use Rattle.body_writer.specs.Answer.{answer_text}
use Rattle.session_attrs.specs.declared.admission.Admitted.{Admitted}
use Rattle.session_attrs.specs.declared.admission.Admitted.TheVariants as admitted
use Rattle.session_attrs.specs.declared.refusal.AttrRefusal.{AttrRefusal}
use Rattle.session_attrs.specs.declared.request.Creation.{Creation}
use Rattle.session_attrs.specs.declared.request.Kind.{Kind}
use Rattle.session_attrs.specs.declared.request.Kind.TheVariants as kinds
use Rattle.session_attrs.specs.declared.request.Request.{Request}
use Rattle.session_attrs.specs.Admission.{admitted_of}
use Rattle.session_attrs.specs.Reading.{request_of}
use Rattle.session_attrs.specs.Values.{values_of}
use Rattle.session_core.specs.Journal.{IsReadFrom, none as nothing_made}
use Rattle.session_core.specs.Machine.{created_parts}
use Rattle.session_core.specs.declared.opening.Opening.{Opening}
use Rattle.session_laws.proofs.Tests.{split, both_true}
use Rattle.script_text.specs.declared.event.Event.{Event}
use Rattle.script_text.specs.declared.event.Event.TheVariants.{Arrives}
use Rattle.script_text.specs.declared.report.ReportLine.{ReportLine}
use Rattle.script_text.specs.declared.report.ReportLine.TheVariants.{Out}
use Rattle.script_text.specs.Headline.{is_numbered, NamesOpened, tells_of}
use Rattle.session_attrs.specs.Serving.{can_serve}
use Rattle.script_text.specs.Live.{PlainLive, Turn, turn_at, if_live, if_over, not_found}
use Rattle.script_text.specs.Manager.{PlainManager, Change, only, closed, with_closed, number_of, place_of, turned_at, comes_at, comes, passed, opening_by, opened_live, opened_turn, with_opened, at_host, admitted_to, unrefused, request_from, request_in, comes_to, posted_by, posted_as, posted}
use Rattle.script_text.specs.Stands.{IsEvent}
use Rattle.script_text.proofs.OpeningLemmas.{opens}
use Rattle.script_text.proofs.SessionsLemmas.{GoesOn, TellsAll, all_at, count_cons, count_append, place_splits, tells_on, turns, pass_all, opens_one}
use Rattle.script_text.proofs.ToldLemmas.{none_out, told_turn}
use Rattle.script_text.proofs.TurnLemmas.{comes_turn}

-- the report so far tells of the sessions of a manager and of those that ended, and its hosts may have sessions
pub record Holds (report : List ReportLine) (over : List PlainLive) (m : PlainManager) : Type 0 where
  pub tells : TellsAll report over m.live m.opened
  pub hosts : All (λ host. IsTrue (can_serve host)) m.hosts

abbrev pub HoldsAfter : List ReportLine → List PlainLive → Change → Type 0
HoldsAfter report over change = Holds (report ++ change.lines) (over ++ change.over) change.after

pub none_ended : (report : List ReportLine) (over : List PlainLive) (m : PlainManager) → Holds report over m → Holds report (over ++ []) m
none_ended report over m holds = subst (λ o. Holds report o m) (sym (append-nil over)) holds

pub none_reported : (report : List ReportLine) (over : List PlainLive) (m : PlainManager) → Holds report over m → Holds (report ++ []) over m
none_reported report over m holds = subst (λ r. Holds r over m) (sym (append-nil report)) holds

pub closed_counts : (conn k : ℕ) (live : List PlainLive) → count_by (is_numbered k) (map (with_closed conn) live) ≡ count_by (is_numbered k) live
closed_counts conn k [] = refl
closed_counts conn k (s ∷ live) =
    count_cons (is_numbered k) (with_closed conn s) (map (with_closed conn) live)
    ∙ ap (λ n. cond (is_numbered k s) 1 0 + n) (closed_counts conn k live)
    ∙ sym (count_cons (is_numbered k) s live)

-- the request that a body is read as
read_as : (body : List ℕ) (request : Request) (cut : Cut) (r : Result Request AttrRefusal) → body_cut_of body ≡ Ok cut
    → request_of (values_of body cut.attrs) cut.children ≡ r → unrefused r ≡ Some request → IsReadFrom body request
read_as body request cut (Ok other) cut_is is some =
    let same : other ≡ request = cc in
    (cut, cut_is, is ∙ ap Ok same)
read_as body request cut (Err refusal) cut_is is some = absurd (cc)

pub read_from : (body : List ℕ) (request : Request) → request_in body ≡ Some request → IsReadFrom body request
read_from body request is = by (body_cut_of body) refl is
  where
    by : (r : Result Cut _) → body_cut_of body ≡ r → request_from body (result_ok r) ≡ Some request → IsReadFrom body request
    by (Ok cut) cut_is some = read_as body request cut (request_of (values_of body cut.attrs) cut.children) cut_is refl some
    by (Err refusal) cut_is some = absurd (cc)

-- a number that a session's name gives is not zero
pub numbers_positive : (sid : List ℕ) (number : ℕ) → number_of sid ≡ Some number → 1 ≤ number
numbers_positive [] number is = absurd (cc)
numbers_positive (byte ∷ digits) number is = by (byte == 115) is
  where
    by : (b : Bool) → (if b then rid_of digits else None) ≡ Some number → 1 ≤ number
    by true read = (rid_of-IsRid digits number read).0
    by false read = absurd (cc)

module _ (report : List ReportLine) (over : List PlainLive) (m : PlainManager) (holds : Holds report over m) where
  -- one more line, which tells of no session
  pub only_holds : (line : ReportLine) → ((k : ℕ) → filter (tells_of k) (line ∷ []) ≡ []) → NamesOpened m.opened line → HoldsAfter report over (only m line)
  only_holds line silent named = none_ended (report ++ line ∷ []) over m (record {
    tells = tells_on report (line ∷ []) over m.live m.opened silent (All-cons (NamesOpened m.opened) line [] named (All-nil (NamesOpened m.opened))) holds.tells;
    hosts = holds.hosts;
  })

  pub closed_holds : (conn : ℕ) → HoldsAfter report over (closed m conn)
  closed_holds conn = none_ended (report ++ []) over _ (none_reported report over _ (record {
    tells = record {
      numbers = λ k. count_append (is_numbered k) over (map (with_closed conn) m.live)
          ∙ ap (λ n. count_by (is_numbered k) over + n) (closed_counts conn k m.live)
          ∙ sym (count_append (is_numbered k) over m.live)
          ∙ holds.tells.numbers k;
      named = holds.tells.named;
      ended = holds.tells.ended;
      going = All-map (GoesOn report) (with_closed conn) m.live
          (All-weaker (GoesOn report) (λ s. GoesOn report (with_closed conn s)) (λ s g. record { up = record { made = g.up.made; goes_on = g.up.goes_on; all = g.up.all }; told = g.told }) m.live holds.tells.going);
    };
    hosts = holds.hosts;
  }))

  pub passed_holds : (now : ℕ) → HoldsAfter report over (passed m now)
  passed_holds now = record { tells = pass_all now m.opened m.live report over [] holds.tells; hosts = holds.hosts }

  module _ (event : Event) (allowed : IsEvent event) (otherwise : ReportLine) (silent : (k : ℕ) → filter (tells_of k) (otherwise ∷ []) ≡ []) (named : NamesOpened m.opened otherwise) where
    turned_holds : (place : ℕ) (s : PlainLive) → slice_get m.live place ≡ Some s → HoldsAfter report over (turned_at m place (turn_at m.moment event s))
    turned_holds place s is =
        let turn : Turn = turn_at m.moment event s in
        let apart = place_splits m.live place s is in
        let next : suc place ≡ place + 1 = omega arith in
        let tells = subst (λ l. TellsAll report over l m.opened) apart holds.tells in
        let up = (all_at (GoesOn report) m.live place s is holds.tells.going).up in
        record {
          tells = subst (λ n. TellsAll (report ++ turn.lines) (over ++ if_over turn.after) (take place m.live ++ (if_live turn.after ++ drop n m.live)) m.opened) next
              (turns report over (take place m.live) (drop (suc place) m.live) s turn m.opened tells (comes_turn s m.moment event up allowed));
          hosts = holds.hosts;
        }

    comes_at_holds : (place : ℕ) (o : Option PlainLive) → slice_get m.live place ≡ o → HoldsAfter report over (comes_at m event otherwise place o)
    comes_at_holds place None is = only_holds otherwise silent named
    comes_at_holds place (Some s) is = turned_holds place s is

    pub comes_holds : (number : ℕ) → HoldsAfter report over (comes m event otherwise number)
    comes_holds number = by (place_of m number)
      where
        by : (o : Option ℕ) → HoldsAfter report over (elim o [ None ↦ only m otherwise | Some place ↦ comes_at m event otherwise place (slice_get m.live place) ])
        by None = only_holds otherwise silent named
        by (Some place) = comes_at_holds place (slice_get m.live place) refl

  -- an answer of the manager's own
  out_holds : (conn : ℕ) (body : List ℕ) → HoldsAfter report over (only m (Out conn body))
  out_holds conn body = only_holds (Out conn body) (λ k. refl) tt

  module _ (conn : ℕ) (body : List ℕ) (request : Request) (read : IsReadFrom body request) where
    opened_holds : (creation : Creation) (host : HostName) → request.kind ≡ kinds.Creation creation → IsTrue (can_serve host) → nat_lt (length m.live) most_sessions && nat_lt m.opened most_openings ≡ true
        → HoldsAfter report over (with_opened m (m.opened + 1) (opened_turn (m.opened + 1) conn (opening_by host (m.opened + 1) body request creation m.moment)))
    opened_holds creation host kind good room =
        let o : Opening = opening_by host (m.opened + 1) body request creation m.moment in
        let s : PlainLive = opened_live (m.opened + 1) o in
        let small : m.opened < most_openings = ltb-true m.opened most_openings (both_true (nat_lt (length m.live) most_sessions) (nat_lt m.opened most_openings) room).1 in
        let opening = opens host (m.opened + 1) m.moment body o.sid host.name request creation o.terms good (omega (arith, small)) (omega (arith, small)) refl refl read kind refl in
        record {
          tells = opens_one report over m.live m.opened s _ holds.tells refl refl (told_turn s _ (opening, nothing_made) (omega arith) (none_out conn (answer_text (created_parts o))));
          hosts = holds.hosts;
        }

    at_host_holds : (creation : Creation) → request.kind ≡ kinds.Creation creation → (place : ℕ) (o : Option HostName) → slice_get m.hosts place ≡ o
        → HoldsAfter report over (at_host m conn body request creation o)
    at_host_holds creation kind place None is = out_holds conn _
    at_host_holds creation kind place (Some host) is = split (HoldsAfter report over) (nat_lt (length m.live) most_sessions && nat_lt m.opened most_openings) _ _
        (opened_holds creation host kind (all_at (λ host. IsTrue (can_serve host)) m.hosts place host is holds.hosts))
        (λ full. out_holds conn _)

    admitted_holds : (creation : Creation) → request.kind ≡ kinds.Creation creation → (to : Admitted) → HoldsAfter report over (admitted_to m conn body request creation to)
    admitted_holds creation kind admitted.Improper = out_holds conn _
    admitted_holds creation kind admitted.Unknown = out_holds conn _
    admitted_holds creation kind (admitted.Host place) = at_host_holds creation kind place (slice_get m.hosts place) refl

    comes_to_holds : (sid : List ℕ) → request.kind ≡ kinds.Later sid → (number : Option ℕ) → HoldsAfter report over (comes_to m conn body request number)
    comes_to_holds sid kind None = out_holds conn _
    comes_to_holds sid kind (Some number) = comes_holds (Arrives conn request body) (read, (sid, kind)) (not_found conn) (λ k. refl) tt number

    by_kind_holds : (kind : Kind) → request.kind ≡ kind → HoldsAfter report over (posted_by m conn body request kind)
    by_kind_holds (kinds.Later sid) kind = comes_to_holds sid kind (number_of sid)
    by_kind_holds (kinds.Creation creation) kind = admitted_holds creation kind (admitted_of request.to m.hosts)

  posted_as_holds : (conn : ℕ) (body : List ℕ) (request : Option Request) → request_in body ≡ request → HoldsAfter report over (posted_as m conn body request)
  posted_as_holds conn body None is = out_holds conn _
  posted_as_holds conn body (Some request) is = by_kind_holds conn body request (read_from body request is) request.kind refl

  -- whatever body arrives
  pub posted_holds : (conn : ℕ) (body : List ℕ) → HoldsAfter report over (posted m conn body)
  posted_holds conn body = posted_as_holds conn body (request_in body) refl
