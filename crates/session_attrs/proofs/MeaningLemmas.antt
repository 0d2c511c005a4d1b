-- What is read is what the attributes mean.
use Rattle.std.proofs.Common.{◌≡◌, ◌↔◌, ℕ, Bool, true, false, not, List, Option, Some, None, Result, Ok, Err, IsTrue, IfOk, if◌then◌else◌, refl, sym, ◌∙◌, ap, subst, rules}
use Rattle.std.specs.Option.{ok_or, option_and_then}
use Rattle.std.specs.Result.{result_err}
use Rattle.body_cutter.specs.declared.parts.Span.{Span}
use Rattle.bosh_types.specs.Rid.{rid_of}
use Rattle.session_attrs.specs.declared.refusal.AttrRefusal.{AttrRefusal}
use Rattle.session_attrs.specs.declared.refusal.AttrRefusal.TheVariants.{WrongNamespace, NoRid, BadRid, BadNumber, BadAck, BadType, BadFlag}
use Rattle.session_attrs.specs.declared.refusal.RequestError.{RequestError}
use Rattle.session_attrs.specs.declared.refusal.RequestError.TheVariants.{Memory, Refused}
use Rattle.session_attrs.specs.declared.refusal.Numbered.TheVariants.{Wait, Hold, Ver, Pause}
use Rattle.session_attrs.specs.declared.request.Creation.{Creation}
use Rattle.session_attrs.specs.declared.request.Kind.{Kind}
use Rattle.session_attrs.specs.declared.request.Kind.TheVariants as kinds
use Rattle.session_attrs.specs.declared.request.Request.{Request}
use Rattle.session_attrs.specs.declared.rows.Asked.{Asked}
use Rattle.session_attrs.specs.Forms.{number_of, pause_of, version_of, wish_of, ack_of, terminate_of, no_type_of, flag_of, says_httpbind}
use Rattle.session_attrs.specs.Meaning.{Means, MeansCreation, MeansKind, MeansLater, IsPlain}
use Rattle.session_attrs.specs.Reading.{rid_row, rid_in, creation_in, asked_in, creating, continuing, request_with, request_of}
use Rattle.session_attrs.specs.Refusal.{request_refusal}
use Rattle.session_attrs.specs.Rows.{Answers, IfRefused, Says, row, told, ◌>>=◌}
use Rattle.session_attrs.specs.Values.{Values}
use Rattle.session_attrs.proofs.RowLemmas.{says_row, row_says, bind_is, bind_ok, err_is, ok_is}
use Rattle.session_attrs.proofs.RefusalLemmas.{refusal_of_request}

-- what a creation means is what is read
creation_reads : (v : Values) (c : Creation) → MeansCreation v c → creation_in v ≡ Ok c
unfolding creation_in
creation_reads v c m =
    bind_is _ _ c.wait _ (says_row (told number_of) None (BadNumber Wait) v.wait c.wait m.wait)
    (bind_is _ _ c.hold _ (says_row (told number_of) None (BadNumber Hold) v.hold c.hold m.hold)
    (bind_is _ _ c.version _ (says_row version_of (1, 0) (BadNumber Ver) v.ver c.version m.version)
    (bind_is _ _ c.asks_ack _ (says_row wish_of false BadAck v.ack c.asks_ack m.asks_ack)
    (bind_is _ _ false _ (ap (λ value. row no_type_of false BadType value) m.no_type)
    (bind_is _ _ m.flag.0 _ (says_row flag_of false BadFlag v.restart m.flag.0 m.flag.1) refl)))))

asked_of : Request → Asked
asked_of q = record { pause = q.pause; ack = q.ack; terminate = q.terminate; restart = q.restart }

later_reads : (v : Values) (q : Request) → MeansLater v q → asked_in v q.rid ≡ Ok (asked_of q)
unfolding asked_in asked_of
later_reads v q m =
    bind_is _ _ q.pause _ (says_row (told pause_of) None (BadNumber Pause) v.pause q.pause m.pause)
    (bind_is _ _ q.ack _ (says_row (told (ack_of q.rid)) None BadAck v.ack q.ack m.ack)
    (bind_is _ _ q.terminate _ (says_row terminate_of false BadType v.type q.terminate m.terminate)
    (bind_is _ _ q.restart _ (says_row flag_of false BadFlag v.restart q.restart m.restart) refl)))

kind_reads : (v : Values) (children : List Span) (q : Request) (k : Kind) → Means v children q → MeansKind v q k → request_with v children q.rid v.sid ≡ Ok (record q { kind = k })
unfolding request_with asked_of
kind_reads v children q (kinds.Creation c) m (unnamed, means, plain) =
    ap (λ s. request_with v children q.rid s) unnamed
    ∙ bind_is _ _ c _ (creation_reads v c means)
    (rw (plain.ack, plain.key, plain.pause, plain.stream, plain.restart, plain.terminate, m.newkey, m.to, m.stanzas) refl)
kind_reads v children q (kinds.Later sid) m (is_named, means) =
    ap (λ s. request_with v children q.rid s) is_named
    ∙ bind_is _ _ (asked_of q) _ (later_reads v q means)
    (rw (means.key, means.stream, m.newkey, m.to, m.stanzas) refl)

rid_reads : (b : Bool) (value : Option (List ℕ)) (rid : ℕ) → IsTrue b → option_and_then rid_of value ≡ Some rid → (if b then rid_row value else Err WrongNamespace) ≡ Ok rid
rid_reads true (Some text) rid said is = ap (λ o. ok_or o BadRid) is
rid_reads true None rid said is = cc
rid_reads false value rid said is = cc

-- what attributes and children mean is read
pub means_reads : (v : Values) (children : List Span) (q : Request) → Means v children q → request_of v children ≡ Ok q
unfolding request_of rid_in
means_reads v children q m =
    bind_is _ _ q.rid _ (rid_reads (says_httpbind v.xmlns) v.rid q.rid m.xmlns m.rid)
    (kind_reads v children q q.kind m m.kind)

ok_same : {A : Type 0} (x y : A) → (let answer : Result A AttrRefusal = Ok x in answer ≡ Ok y) → x ≡ y
ok_same x y is = cc

untyped : (value : Option (List ℕ)) (x : Bool) → row no_type_of false BadType value ≡ Ok x → value ≡ None
untyped None x is = refl
untyped (Some text) x is = cc

-- what is read of a creation is what it means
creation_means : (v : Values) (c : Creation) → creation_in v ≡ Ok c → MeansCreation v c
unfolding creation_in
creation_means v c is =
    let wait = bind_ok _ _ c is in
    let hold = bind_ok _ _ c wait.2 in
    let version = bind_ok _ _ c hold.2 in
    let asks_ack = bind_ok _ _ c version.2 in
    let type = bind_ok _ _ c asks_ack.2 in
    let restart = bind_ok _ _ c type.2 in
    let P : Creation → Type 0 = λ x. MeansCreation v x in
    subst P (ok_same _ c restart.2) (record {
      wait = row_says (told number_of) None (BadNumber Wait) v.wait wait.0 wait.1;
      hold = row_says (told number_of) None (BadNumber Hold) v.hold hold.0 hold.1;
      version = row_says version_of (1, 0) (BadNumber Ver) v.ver version.0 version.1;
      asks_ack = row_says wish_of false BadAck v.ack asks_ack.0 asks_ack.1;
      no_type = untyped v.type type.0 type.1;
      flag = (restart.0, row_says flag_of false BadFlag v.restart restart.0 restart.1);
    })

-- what is read of a later request
record MeansAsked (v : Values) (rid : ℕ) (asked : Asked) : Type 0 where
  pause : Says (told pause_of) None v.pause asked.pause
  ack : Says (told (ack_of rid)) None v.ack asked.ack
  terminate : Says terminate_of false v.type asked.terminate
  restart : Says flag_of false v.restart asked.restart

asked_means : (v : Values) (rid : ℕ) (asked : Asked) → asked_in v rid ≡ Ok asked → MeansAsked v rid asked
unfolding asked_in
asked_means v rid asked is =
    let pause = bind_ok _ _ asked is in
    let ack = bind_ok _ _ asked pause.2 in
    let terminate = bind_ok _ _ asked ack.2 in
    let restart = bind_ok _ _ asked terminate.2 in
    let P : Asked → Type 0 = λ x. MeansAsked v rid x in
    subst P (ok_same _ asked restart.2) (record {
      pause = row_says (told pause_of) None (BadNumber Pause) v.pause pause.0 pause.1;
      ack = row_says (told (ack_of rid)) None BadAck v.ack ack.0 ack.1;
      terminate = row_says terminate_of false BadType v.type terminate.0 terminate.1;
      restart = row_says flag_of false BadFlag v.restart restart.0 restart.1;
    })

kind_means : (v : Values) (children : List Span) (rid : ℕ) (sid : Option (List ℕ)) (q : Request) → v.sid ≡ sid → IsTrue (says_httpbind v.xmlns) → option_and_then rid_of v.rid ≡ Some rid → request_with v children rid sid ≡ Ok q → Means v children q
unfolding request_with
kind_means v children rid None q is_sid said is_rid is =
    let creation = bind_ok (creation_in v) _ q is in
    let P : Request → Type 0 = λ x. Means v children x in
    subst P (ok_same _ q creation.2) (record {
      xmlns = said;
      rid = is_rid;
      kind = (is_sid, creation_means v creation.0 creation.1, record { ack = refl; key = refl; pause = refl; stream = refl; restart = refl; terminate = refl });
      newkey = refl;
      to = refl;
      stanzas = refl;
    })
kind_means v children rid (Some sid) q is_sid said is_rid is =
    let asked = bind_ok (asked_in v rid) _ q is in
    let means = asked_means v rid asked.0 asked.1 in
    let P : Request → Type 0 = λ x. Means v children x in
    subst P (ok_same _ q asked.2) (record {
      xmlns = said;
      rid = is_rid;
      kind = (is_sid, record { ack = means.ack; key = refl; pause = means.pause; stream = refl; restart = means.restart; terminate = means.terminate });
      newkey = refl;
      to = refl;
      stanzas = refl;
    })

ok_rid : (o : Option ℕ) (rid : ℕ) → ok_or o BadRid ≡ Ok rid → o ≡ Some rid
ok_rid None rid is = cc
ok_rid (Some n) rid is = cc

rid_means : (b : Bool) (value : Option (List ℕ)) (rid : ℕ) → (if b then rid_row value else Err WrongNamespace) ≡ Ok rid → IsTrue b × (option_and_then rid_of value ≡ Some rid)
rid_means true (Some text) rid is = (search rules, ok_rid (rid_of text) rid is)
rid_means true None rid is = cc
rid_means false value rid is = cc

-- what is read is what they mean
pub reads_means : (v : Values) (children : List Span) (q : Request) → request_of v children ≡ Ok q → Means v children q
unfolding request_of rid_in
reads_means v children q is =
    let rid = bind_ok _ _ q is in
    let means = rid_means (says_httpbind v.xmlns) v.rid rid.0 rid.1 in
    kind_means v children rid.0 v.sid q refl means.0 means.1 rid.2

pub one : (v : Values) (children : List Span) (q r : Request) → Means v children q → Means v children r → q ≡ r
one v children q r mq mr =
    let both : Ok q ≡ Ok r = sym (means_reads v children q mq) ∙ means_reads v children r mr in
    cc

pub some : (v : Values) (children : List Span) → ((q : Request) × Means v children q) ↔ (request_refusal v ≡ None)
some v children = (
  λ (q, m). sym (refusal_of_request v children) ∙ ap result_err (means_reads v children q m),
  λ none.
      let read = ok_is (request_of v children) (refusal_of_request v children ∙ none) in
      (read.0, reads_means v children read.0 read.1),
)

-- what was answered, by what reading gives
pub answered_means : (v : Values) (children : List Span) (result : Result Request RequestError) → Answers result (request_of v children) → IfOk result (λ q. Means v children q)
answered_means v children (Ok q) is = reads_means v children q is
answered_means v children (Err e) is = tt

pub answered_refused : (v : Values) (children : List Span) (result : Result Request RequestError) → Answers result (request_of v children) → IfRefused result (λ refusal. request_refusal v ≡ Some refusal)
answered_refused v children (Ok q) is = tt
answered_refused v children (Err Memory) is = tt
answered_refused v children (Err (Refused refusal)) is = sym (refusal_of_request v children) ∙ ap result_err is
