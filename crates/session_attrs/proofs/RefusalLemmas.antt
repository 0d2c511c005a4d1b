-- The refusal of a request is the first whose fact holds.
use Rattle.std.proofs.Common.{◌≡◌, ℕ, Bool, true, false, not, cond, List, Option, Some, None, is_none, is_some, Result, Ok, Err, if◌then◌else◌, refl}
use Rattle.std.specs.Option.{ok_or, option_and_then}
use Rattle.std.specs.Result.{result_err}
use Rattle.body_cutter.specs.declared.parts.Span.{Span}
use Rattle.bosh_types.specs.Rid.{rid_of}
use Rattle.session_attrs.specs.declared.refusal.AttrRefusal.{AttrRefusal}
use Rattle.session_attrs.specs.declared.refusal.AttrRefusal.TheVariants.{WrongNamespace, NoRid, BadRid, BadNumber, BadAck, BadType, BadFlag}
use Rattle.session_attrs.specs.declared.refusal.Numbered.TheVariants.{Wait, Hold, Ver, Pause}
use Rattle.session_attrs.specs.Forms.{number_of, pause_of, version_of, wish_of, ack_of, terminate_of, flag_of, says_httpbind}
use Rattle.session_attrs.specs.Reading.{rid_row, rid_in, creation_in, asked_in, creating, continuing, request_with, request_of}
use Rattle.session_attrs.specs.Refusal.{is_bad_ack, request_refusal}
use Rattle.session_attrs.specs.Rows.{is_bad, ◌>>=◌}
use Rattle.session_attrs.specs.Values.{Values}
use Rattle.session_attrs.proofs.RowLemmas.{refusal_row, refusal_told, refusal_no_type}

named : {B : Type 0} (o : Option ℕ) (f : ℕ → Result B AttrRefusal) (rest : Option ℕ → Option AttrRefusal) → ((rid : ℕ) → result_err (f rid) ≡ rest (Some rid)) → result_err (ok_or o BadRid >>= f) ≡ cond (is_none o) (Some BadRid) (rest o)
named None f rest after = refl
named (Some rid) f rest after = after rid

-- the namespace and the id come first
first : {B : Type 0} (b : Bool) (value : Option (List ℕ)) (f : ℕ → Result B AttrRefusal) (rest : Option ℕ → Option AttrRefusal) → ((rid : ℕ) → result_err (f rid) ≡ rest (Some rid)) → result_err ((if b then rid_row value else Err WrongNamespace) >>= f) ≡ cond (not b) (Some WrongNamespace) (cond (is_none value) (Some NoRid) (cond (is_bad rid_of value) (Some BadRid) (rest (option_and_then rid_of value))))
first false value f rest after = refl
first true None f rest after = refl
first true (Some text) f rest after = named (rid_of text) f rest after

-- after them, in a creation
abbrev creation_rest : Values → Option AttrRefusal
creation_rest v =
    cond (is_bad number_of v.wait) (Some (BadNumber Wait)) (cond (is_bad number_of v.hold) (Some (BadNumber Hold))
    (cond (is_bad version_of v.ver) (Some (BadNumber Ver)) (cond (is_bad wish_of v.ack) (Some BadAck)
    (cond (is_some v.type) (Some BadType) (cond (is_bad flag_of v.restart) (Some BadFlag) None)))))

-- and in a later request
abbrev later_rest : Values → Option ℕ → Option AttrRefusal
later_rest v rid =
    cond (is_bad pause_of v.pause) (Some (BadNumber Pause)) (cond (is_bad_ack rid v.ack) (Some BadAck)
    (cond (is_bad terminate_of v.type) (Some BadType) (cond (is_bad flag_of v.restart) (Some BadFlag) None)))

-- what is made of what was read adds no refusal
refusal_bind : {A B : Type 0} (m : Result A AttrRefusal) (make : A → B) (rest : Option AttrRefusal) → result_err m ≡ rest → result_err (m >>= λ x. Ok (make x)) ≡ rest
refusal_bind (Ok x) make rest is = is
refusal_bind (Err r) make rest is = is

creation_refusal : (v : Values) (children : List Span) (rid : ℕ) → result_err (request_with v children rid None) ≡ creation_rest v
unfolding request_with creation_in
creation_refusal v children rid =
    refusal_bind (creation_in v) (λ creation. creating v children rid creation) (creation_rest v)
    (refusal_told number_of (BadNumber Wait) v.wait _ _ (λ wait.
    refusal_told number_of (BadNumber Hold) v.hold _ _ (λ hold.
    refusal_row version_of (1, 0) (BadNumber Ver) v.ver _ _ (λ version.
    refusal_row wish_of false BadAck v.ack _ _ (λ asks_ack.
    refusal_no_type v.type _ _ (λ terminate.
    refusal_row flag_of false BadFlag v.restart _ _ (λ restart. refl)))))))

later_refusal : (v : Values) (children : List Span) (rid : ℕ) (sid : List ℕ) → result_err (request_with v children rid (Some sid)) ≡ later_rest v (Some rid)
unfolding request_with asked_in
later_refusal v children rid sid =
    refusal_bind (asked_in v rid) (λ asked. continuing v children rid sid asked) (later_rest v (Some rid))
    (refusal_told pause_of (BadNumber Pause) v.pause _ _ (λ pause.
    refusal_told (ack_of rid) BadAck v.ack _ _ (λ ack.
    refusal_row terminate_of false BadType v.type _ _ (λ terminate.
    refusal_row flag_of false BadFlag v.restart _ _ (λ restart. refl)))))

by_kind : (v : Values) (children : List Span) (sid : Option (List ℕ)) → result_err (request_of (record v { sid = sid }) children) ≡ request_refusal (record v { sid = sid })
unfolding request_of rid_in request_refusal
by_kind v children None =
    first (says_httpbind v.xmlns) v.rid (λ rid. request_with (record v { sid = None }) children rid None) (λ rid. creation_rest v) (creation_refusal (record v { sid = None }) children)
by_kind v children (Some sid) =
    first (says_httpbind v.xmlns) v.rid (λ rid. request_with (record v { sid = Some sid }) children rid (Some sid)) (later_rest v) (λ rid. later_refusal (record v { sid = Some sid }) children rid sid)

-- the first refusal whose fact holds is what reading refuses with
pub refusal_of_request : (v : Values) (children : List Span) → result_err (request_of v children) ≡ request_refusal v
refusal_of_request v children = by_kind v children v.sid
