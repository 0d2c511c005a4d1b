-- Reading an answer gives exactly its meaning, and the first reason for which it has none.
use Rattle.std.proofs.Common.{◌≡◌, ℕ, inl, inr, Bool, true, false, ◌||◌, List, Some, None, refl, sym, ◌∙◌, ap, subst}
use Rattle.std.specs.Prelude.{Option, Ok, Err, IsSome, IsTrue, ◌⊎◌, is_none, is_some, not, ◌↔◌, cond, if◌then◌else◌}
use Rattle.std.specs.Option.{ok_or, option_map}
use Rattle.bosh_types.specs.Rid.{rid_of}
use Rattle.session_attrs.specs.Forms.{number_of, says_httpbind}
use Rattle.session_attrs.specs.Rows.{Says, is_bad, told}
use Rattle.bosh_client.specs.declared.replies.ClientEnd.{ClientEnd}
use Rattle.bosh_client.specs.declared.replies.Why.{Why}
use Rattle.bosh_client.specs.declared.replies.Why.TheVariants as whys
use Rattle.bosh_client.specs.declared.said.AnswerType.{AnswerType}
use Rattle.bosh_client.specs.declared.said.AnswerType.TheVariants.{Terminate, Error}
use Rattle.bosh_client.specs.declared.said.Said.{Said}
use Rattle.bosh_client.specs.declared.told.Told.{Told}
use Rattle.bosh_client.specs.AnswerMeaning.{HasType, MeansAck, MeansAnswer, MeansEnd, broken_values, has_bad_attribute, type_of}
use Rattle.bosh_client.specs.AnswerReading.{◌>>=◌, answer_with, end_by, end_with, is_error, said, said_in, told_from}
use Rattle.bosh_client.specs.AnswerValues.{AnswerValues}

-- A row both ways.

said_of : {X : Type 0} (read : List ℕ → Option X) (o : Option (List ℕ)) (x : Option X) → Says (told read) None o x → said read o ≡ Some x
said_of read None x says = ap Some (sym says)
said_of read (Some text) x says = says

says_of : {X : Type 0} (read : List ℕ → Option X) (o : Option (List ℕ)) (x : Option X) → said read o ≡ Some x → Says (told read) None o x
says_of read None x is =
    let same : None ≡ x = cc in
    sym same
says_of read (Some text) x is = is

bind_of : {A B : Type 0} (o : Option A) (f : A → Option B) (y : B) → (o >>= f) ≡ Some y → (x : A) × (o ≡ Some x) × (f x ≡ Some y)
bind_of None f y is = absurd (cc)
bind_of (Some x) f y is = (x, refl, is)

-- each attribute says what is read of it
record Says5 (v : AnswerValues) (s : Said) : Type 0 where
  kind : said type_of v.type ≡ Some s.kind
  ack : said rid_of v.ack ≡ Some s.ack
  requests : said number_of v.requests ≡ Some s.requests
  polling : said number_of v.polling ≡ Some s.polling
  maxpause : said number_of v.maxpause ≡ Some s.maxpause

all_said : (v : AnswerValues) (s : Said) → Says5 v s → said_in v ≡ Some s
unfolding said_in
all_said v s is = rw (is.kind, is.ack, is.requests, is.polling, is.maxpause) refl

said_all : (v : AnswerValues) (s : Said) → said_in v ≡ Some s → Says5 v s
unfolding said_in
said_all v s is =
    let one = bind_of (said type_of v.type) _ s is in
    let two = bind_of (said rid_of v.ack) _ s one.2 in
    let three = bind_of (said number_of v.requests) _ s two.2 in
    let four = bind_of (said number_of v.polling) _ s three.2 in
    let five = bind_of (said number_of v.maxpause) _ s four.2 in
    let whole : Some (record { kind = one.0; ack = two.0; requests = three.0; polling = four.0; maxpause = five.0 }) ≡ Some s = five.2 in
    let same : (let made : Said = record { kind = one.0; ack = two.0; requests = three.0; polling = four.0; maxpause = five.0 } in made) ≡ s = cc in
    record {
      kind = one.1 ∙ ap (λ (x : Said). Some x.kind) same;
      ack = two.1 ∙ ap (λ (x : Said). Some x.ack) same;
      requests = three.1 ∙ ap (λ (x : Said). Some x.requests) same;
      polling = four.1 ∙ ap (λ (x : Said). Some x.polling) same;
      maxpause = five.1 ∙ ap (λ (x : Said). Some x.maxpause) same;
    }

-- What says this means that.

same_type : (o : Option AnswerType) (kind : AnswerType) → option_map Some o ≡ Some (Some kind) → o ≡ Some kind
same_type None kind is = absurd (cc)
same_type (Some other) kind is = cc

end_of_type : (v : AnswerValues) (type stream : Option (List ℕ)) (kind : Option AnswerType) → v.type ≡ type → v.stream ≡ stream → said type_of type ≡ Some kind
    → MeansEnd v (end_by v.condition stream kind) (is_error kind)
end_of_type v None stream None type names is = inl type
end_of_type v None stream (Some kind) type names is = absurd (cc)
end_of_type v (Some text) stream None type names is = absurd (by (type_of text) is)
  where
    by : (o : Option AnswerType) → option_map Some o ≡ Some None → ⊥
    by None is = cc
    by (Some kind) is = cc
end_of_type v (Some text) None (Some Terminate) type names is = ((text, type, same_type (type_of text) Terminate is), names, refl, refl)
end_of_type v (Some text) (Some stream) (Some Terminate) type names is = inr ((text, type, same_type (type_of text) Terminate is), ap is_some names)
end_of_type v (Some text) stream (Some Error) type names is = (text, type, same_type (type_of text) Error is)

ack_of_text : (ack : Option (List ℕ)) (rid : Option ℕ) → said rid_of ack ≡ Some rid → MeansAck ack (is_some rid)
ack_of_text None rid is =
    let none : None ≡ rid = cc in
    ap is_some (sym none)
ack_of_text (Some text) rid is = by (rid_of text) is
  where
    by : (o : Option ℕ) → option_map Some o ≡ Some rid → IsTrue (is_some o) × (is_some rid ≡ true)
    by None is = absurd (cc)
    by (Some n) is =
        let some : Some n ≡ rid = cc in
        (refl, ap is_some (sym some))

pub told_means : (v : AnswerValues) (payloads : List (List ℕ)) (s : Said) → says_httpbind v.xmlns ≡ true → said_in v ≡ Some s → MeansAnswer v payloads (told_from v payloads s)
told_means v payloads s httpbind is =
    let all = said_all v s is in
    record {
      xmlns = httpbind;
      end = end_of_type v v.type v.stream s.kind refl refl all.kind;
      sid = refl;
      requests = says_of number_of v.requests s.requests all.requests;
      polling = says_of number_of v.polling s.polling all.polling;
      maxpause = says_of number_of v.maxpause s.maxpause all.maxpause;
      ack = ack_of_text v.ack s.ack all.ack;
      stream = refl;
      payloads_are = refl;
    }

-- What means that says this.

-- what closes a stream has the type of what ends the session
abbrev kind_named : (v : AnswerValues) → (v.type ≡ None) ⊎ (HasType v Terminate × IsSome v.stream) → Option AnswerType
kind_named v (inl none) = None
kind_named v (inr closes) = Some Terminate

abbrev kind_of : (v : AnswerValues) (end : Option ClientEnd) (error : Bool) → MeansEnd v end error → Option AnswerType
kind_of v None false means = kind_named v means
kind_of v None true means = Some Error
kind_of v (Some end) error means = Some Terminate

has_said : (v : AnswerValues) (type : Option (List ℕ)) (kind : AnswerType) → v.type ≡ type → HasType v kind → said type_of type ≡ Some (Some kind)
has_said v None kind type (text, is, reads) = absurd (cc)
has_said v (Some text) kind type (own, is, reads) =
    let same : text ≡ own = cc in
    ap (λ (t : List ℕ). option_map Some (type_of t)) same ∙ ap (option_map Some) reads

named_said : (v : AnswerValues) (means : (v.type ≡ None) ⊎ (HasType v Terminate × IsSome v.stream)) → said type_of v.type ≡ Some (kind_named v means)
named_said v (inl none) = ap (said type_of) none
named_said v (inr closes) = has_said v v.type Terminate refl closes.0

type_said : (v : AnswerValues) (end : Option ClientEnd) (error : Bool) (means : MeansEnd v end error) → said type_of v.type ≡ Some (kind_of v end error means)
type_said v None false means = named_said v means
type_said v None true means = has_said v v.type Error refl means
type_said v (Some end) error means = has_said v v.type Terminate refl means.0

end_named : (v : AnswerValues) (means : (v.type ≡ None) ⊎ (HasType v Terminate × IsSome v.stream)) → end_by v.condition v.stream (kind_named v means) ≡ None
end_named v (inl none) = refl
end_named v (inr closes) = by v.stream closes.1
  where
    by : (stream : Option (List ℕ)) → IsSome stream → end_with v.condition stream ≡ None
    by None is = absurd (cc)
    by (Some stream) is = refl

end_same : (v : AnswerValues) (end : Option ClientEnd) (error : Bool) (means : MeansEnd v end error) → end_by v.condition v.stream (kind_of v end error means) ≡ end
end_same v None false means = end_named v means
end_same v None true means = refl
end_same v (Some end) error means = ap (end_with v.condition) means.1 ∙ (λ i. Some (record { condition = sym means.2 i }))

error_named : (v : AnswerValues) (means : (v.type ≡ None) ⊎ (HasType v Terminate × IsSome v.stream)) → is_error (kind_named v means) ≡ false
error_named v (inl none) = refl
error_named v (inr closes) = refl

error_same : (v : AnswerValues) (end : Option ClientEnd) (error : Bool) (means : MeansEnd v end error) → is_error (kind_of v end error means) ≡ error
error_same v None false means = error_named v means
error_same v None true means = refl
error_same v (Some end) error means = sym means.3

ack_said : (ack : Option (List ℕ)) (acknowledges : Bool) → MeansAck ack acknowledges → (rid : Option ℕ) × (said rid_of ack ≡ Some rid) × (is_some rid ≡ acknowledges)
ack_said None acknowledges means = (None, refl, sym means)
ack_said (Some text) acknowledges means = by (rid_of text) means.0
  where
    by : (o : Option ℕ) → IsTrue (is_some o) → (rid : Option ℕ) × (option_map Some o ≡ Some rid) × (is_some rid ≡ acknowledges)
    by None is = absurd (cc)
    by (Some n) is = (Some n, refl, sym means.1)

pub means_told : (v : AnswerValues) (payloads : List (List ℕ)) (t : Told) → MeansAnswer v payloads t → answer_with v payloads ≡ Ok t
unfolding answer_with
means_told v payloads t means =
    let ack = ack_said v.ack t.acknowledges means.ack in
    let s : Said = record { kind = kind_of v t.end t.error means.end; ack = ack.0; requests = t.requests; polling = t.polling; maxpause = t.maxpause } in
    let is : said_in v ≡ Some s = all_said v s (record {
      kind = type_said v t.end t.error means.end;
      ack = ack.1;
      requests = said_of number_of v.requests t.requests means.requests;
      polling = said_of number_of v.polling t.polling means.polling;
      maxpause = said_of number_of v.maxpause t.maxpause means.maxpause;
    }) in
    let same : told_from v payloads s ≡ t = λ i. record {
      end = end_same v t.end t.error means.end i;
      error = error_same v t.end t.error means.end i;
      sid = sym means.sid i;
      requests = t.requests;
      polling = t.polling;
      maxpause = t.maxpause;
      acknowledges = ack.2 i;
      stream = sym means.stream i;
      payloads = sym means.payloads_are i;
    } in
    ap (λ b. if b then ok_or (option_map (told_from v payloads) (said_in v)) whys.Attribute else Err whys.Namespace) means.xmlns
    ∙ ap (λ o. ok_or (option_map (told_from v payloads) o) whys.Attribute) is ∙ ap Ok same

pub told_is : (v : AnswerValues) (payloads : List (List ℕ)) (t : Told) → answer_with v payloads ≡ Ok t → MeansAnswer v payloads t
unfolding answer_with
told_is v payloads t is = by (says_httpbind v.xmlns) (said_in v) refl refl is
  where
    by : (b : Bool) (o : Option Said) → says_httpbind v.xmlns ≡ b → said_in v ≡ o → (if b then ok_or (option_map (told_from v payloads) o) whys.Attribute else Err whys.Namespace) ≡ Ok t → MeansAnswer v payloads t
    by false o httpbind said is = absurd (cc)
    by true None httpbind said is = absurd (cc)
    by true (Some s) httpbind said is =
        let same : told_from v payloads s ≡ t = cc in
        subst (λ (u : Told). MeansAnswer v payloads u) same (told_means v payloads s httpbind said)

pub one_meaning : (v : AnswerValues) (payloads : List (List ℕ)) (t u : Told) → MeansAnswer v payloads t → MeansAnswer v payloads u → t ≡ u
one_meaning v payloads t u first second =
    let one = means_told v payloads t first in
    let two = means_told v payloads u second in
    cc

-- The first reason.

bad_is : {X : Type 0} (read : List ℕ → Option X) (o : Option (List ℕ)) → is_bad read o ≡ is_none (said read o)
bad_is read None = refl
bad_is read (Some text) = by (read text)
  where
    by : {Y : Type 0} (x : Option Y) → is_none x ≡ is_none (option_map Some x)
    by None = refl
    by (Some y) = refl

none_of : {A B : Type 0} (o : Option A) (f : A → Option B) (b : Bool) → ((x : A) → is_none (f x) ≡ b) → is_none (o >>= f) ≡ (is_none o || b)
none_of None f b rest = refl
none_of (Some x) f b rest = rest x

or_five : (a b c d e : Bool) → (a || (b || (c || (d || (e || false))))) ≡ ((((a || b) || c) || d) || e)
or_five true b c d e = refl
or_five false true c d e = refl
or_five false false true d e = refl
or_five false false false true e = refl
or_five false false false false true = refl
or_five false false false false false = refl

none_said : (v : AnswerValues) → is_none (said_in v) ≡ has_bad_attribute v
unfolding said_in
none_said v =
    none_of (said type_of v.type) _ _ (λ kind. none_of (said rid_of v.ack) _ _ (λ ack. none_of (said number_of v.requests) _ _ (λ requests. none_of (said number_of v.polling) _ _ (λ polling. none_of (said number_of v.maxpause) _ false (λ maxpause. refl)))))
    ∙ or_five (is_none (said type_of v.type)) (is_none (said rid_of v.ack)) (is_none (said number_of v.requests)) (is_none (said number_of v.polling)) (is_none (said number_of v.maxpause))
    ∙ sym (rw (bad_is type_of v.type, bad_is rid_of v.ack, bad_is number_of v.requests, bad_is number_of v.polling, bad_is number_of v.maxpause) refl)

broken_both : (b : Bool) (o : Option Said) (bad : Bool) (f : Said → Told) (why : Why) → is_none o ≡ bad
    → ((if b then ok_or (option_map f o) whys.Attribute else Err whys.Namespace) ≡ Err why) ↔ (cond (not b) (Some whys.Namespace) (cond bad (Some whys.Attribute) None) ≡ Some why)
broken_both false o bad f why none = (λ is. cc, λ is. cc)
broken_both true None bad f why none =
    let found : cond bad (Some whys.Attribute) None ≡ Some whys.Attribute = ap (λ b. cond b (Some whys.Attribute) None) (sym none) in
    (λ is. cc, λ is. cc)
broken_both true (Some s) bad f why none =
    let found : cond bad (Some whys.Attribute) None ≡ None = ap (λ b. cond b (Some whys.Attribute) None) (sym none) in
    (λ is. absurd (cc), λ is. absurd (cc))

pub broken_is : (v : AnswerValues) (payloads : List (List ℕ)) (why : Why) → (answer_with v payloads ≡ Err why) ↔ (broken_values v ≡ Some why)
unfolding answer_with broken_values
broken_is v payloads why = broken_both (says_httpbind v.xmlns) (said_in v) (has_bad_attribute v) (told_from v payloads) why (none_said v)

pub means_exactly : (v : AnswerValues) (payloads : List (List ℕ)) (t : Told) → (answer_with v payloads ≡ Ok t) ↔ MeansAnswer v payloads t
means_exactly v payloads t = (told_is v payloads t, means_told v payloads t)
