-- Entries that are entered once more: what may open a session.
use Rattle.std.proofs.Common.{◌≡◌, ◌≢◌, ℕ, zero, suc, ◌+◌, ◌<◌, ◌≤◌, ◌==◌, Bool, true, false, fold, List, [], ◌∷◌, ◌++◌, Option, Some, None, Result, Ok, Err, length, get_or, set, map, refl, sym, ◌∙◌, ap, ap₂, subst, arith, length-append, if◌then◌else◌}
use Rattle.std.specs.Prelude.{◌&&◌, IfOk, IsTrue, chars, nat_le, option_and_then, sum_by}
use Rattle.std.specs.List.{list_all}
use Rattle.std.specs.Option.{option_map}
use Rattle.std.specs.Str.{is_utf8}
use Rattle.std.specs.declared.alloc.AllocError.{AllocError}
use Rattle.std.proofs.lemmas.Bool.{eqb-false, leb-true, le-leb}
use Rattle.std.proofs.lemmas.List.{get_or-set_other, get_or-set_same, length-set}
use Rattle.std.proofs.Math.ListN.{get_or-eq_default}
use Rattle.std.proofs.lemmas.Str.{IsUtf8-from_is_utf8, chars_from_encodes, encodes-chars, is_utf8-from_IsUtf8}
use Rattle.bosh_types.specs.Limits.{longest_stanza, most_waiting}
use Rattle.bosh_types.specs.declared.terms.Terms.{Terms}
use Rattle.body_cutter.specs.BodyText.{IsText}
use Rattle.body_cutter.specs.Cutting.{body_cut_of, is_stanza}
use Rattle.body_cutter.specs.Utf8.{is_tabled}
use Rattle.body_cutter.specs.declared.parts.Cut.{Cut}
use Rattle.body_cutter.specs.declared.parts.CutRefusal.{CutRefusal}
use Rattle.body_cutter.proofs.Leads.{both}
use Rattle.body_cutter.proofs.Utf8Allowed.{table_is}
use Rattle.session_attrs.specs.Body as bodies
use Rattle.session_attrs.specs.Reading.{request_of}
use Rattle.session_attrs.specs.Serving.{may_greet}
use Rattle.session_attrs.specs.Terms.{terms_of}
use Rattle.session_attrs.specs.Values.{values_of}
use Rattle.session_attrs.specs.declared.refusal.AttrRefusal.{AttrRefusal}
use Rattle.session_attrs.specs.declared.request.Creation.{Creation}
use Rattle.session_attrs.specs.declared.request.Kind.{Kind}
use Rattle.session_attrs.specs.declared.request.Kind.TheVariants as kinds
use Rattle.session_attrs.specs.declared.request.Request.{Request}
use Rattle.session_core.specs.Copy.{unnamed}
use Rattle.session_core.specs.Journal.{IsOpening, IsReadFrom, Journal, none as no_entries}
use Rattle.session_core.specs.Outward.{size_of, size_of_all}
use Rattle.session_core.specs.declared.opening.Opening.{Opening}
use Rattle.session_core.specs.declared.outward.Outward.TheVariants.{Stanza}
use Rattle.session_core.proofs.GreetingLemmas.{greeting_fits}
use Rattle.session_journal.specs.declared.entry.Entered.{Entered}
use Rattle.session_journal.specs.declared.entry.Entered.TheVariants as stored
use Rattle.session_journal.specs.declared.entry.Entry.{Entry}
use Rattle.session_journal.specs.Entries.{all_of, opening_by, opening_in, opening_with, request_in, terms_in, unrefused}
use Rattle.session_journal.specs.Stored.{IsLegal}
use Rattle.session_journal.proofs.JournalLemmas.{all_there, opened_with}
use Rattle.journal_store.specs.Contents.{HasContent, content_of}
use Rattle.journal_store.specs.Reading.{entry_at}
use Rattle.journal_store.specs.declared.reading.SessionEntry.{SessionEntry}
use Rattle.session_store.specs.Journals.{log_at}
use Rattle.session_store.specs.Replay.{Enters, GoesBehind, IsOpeningOf, Replays, is_text, is_text_within, may_stand, may_wait}
use Rattle.session_store.specs.declared.replay.Replayed.{Replayed}
use Rattle.session_store.specs.declared.replay.Replayed.TheVariants as replayed

-- text that may stand in an answer

text_of : (bytes : List ℕ) → is_text bytes ≡ true → IsText bytes
text_of bytes is = by (is_utf8 bytes) refl is
  where
    by : (b : Bool) → is_utf8 bytes ≡ b → (if b then list_all is_tabled (chars bytes) else false) ≡ true → IsText bytes
    by false is_no all = absurd (cc)
    by true is_yes all =
        let utf8 = IsUtf8-from_is_utf8 bytes is_yes in
        (utf8, (table_is bytes).1 (record { characters = chars bytes; pass = all; spell = encodes-chars bytes utf8 }))

of_text : (bytes : List ℕ) → IsText bytes → is_text bytes ≡ true
of_text bytes (utf8, whole) =
    let spelt = (table_is bytes).0 whole in
    ap (λ b. if b then list_all is_tabled (chars bytes) else false) (is_utf8-from_IsUtf8 bytes utf8)
    ∙ ap (list_all is_tabled) (sym (chars_from_encodes spelt.characters bytes utf8 spelt.spell))
    ∙ spelt.pass

within_of : (least most : ℕ) (bytes : List ℕ) → is_text_within least most bytes ≡ true → IsText bytes × (least ≤ length bytes) × (length bytes ≤ most)
unfolding is_text_within
within_of least most bytes is =
    let all = both _ (is_text bytes) is in
    let sizes = both (nat_le least (length bytes)) (nat_le (length bytes) most) all.0 in
    (text_of bytes all.1, leb-true least (length bytes) sizes.0, leb-true (length bytes) most sizes.1)

of_within : (least most : ℕ) (bytes : List ℕ) → IsText bytes × (least ≤ length bytes) × (length bytes ≤ most) → is_text_within least most bytes ≡ true
unfolding is_text_within
of_within least most bytes (text, few, many) =
    ap₂ (λ a b. (a && b) && is_text bytes) (le-leb least (length bytes) few) (le-leb (length bytes) most many) ∙ of_text bytes text

-- a greeting that one answer may take

sizes_from : (size : ℕ) (greeting : List (List ℕ)) → fold (λ n (stanza : List ℕ). n + length stanza) size greeting
    ≡ fold (λ n item. n + size_of item) size (map (Stanza unnamed) greeting)
sizes_from size [] = refl
sizes_from size (stanza ∷ greeting) = sizes_from (size + length stanza) greeting

sizes_are : (greeting : List (List ℕ)) → sum_by (λ stanza. length stanza) greeting ≡ size_of_all (map (Stanza unnamed) greeting)
sizes_are greeting = sizes_from 0 greeting

of_greeting : (greeting : List (List ℕ)) → IsTrue (list_all is_stanza greeting) × (length greeting ≤ most_waiting) × (size_of_all (map (Stanza unnamed) greeting) ≤ longest_stanza)
    → may_greet greeting ≡ true
unfolding may_greet
of_greeting greeting (stanzas, few, small) =
    ap₂ (λ a b. a && (b && nat_le (sum_by (λ stanza. length stanza) greeting) longest_stanza)) stanzas (le-leb (length greeting) most_waiting few)
    ∙ le-leb (sum_by (λ stanza. length stanza) greeting) longest_stanza (subst (λ n. n ≤ longest_stanza) (sym (sizes_are greeting)) small)

-- what stands in the fields of an opening

read_by : (body : List ℕ) (request : Request) (cut : Cut) (r : Result Request AttrRefusal) → body_cut_of body ≡ Ok cut
    → request_of (values_of body cut.attrs) cut.children ≡ r → unrefused r ≡ Some request → IsReadFrom body request
read_by body request cut (Ok other) cut_is is some =
    let same : other ≡ request = cc in
    (cut, cut_is, is ∙ ap Ok same)
read_by body request cut (Err refusal) cut_is is some = absurd (cc)

read_as : (body : List ℕ) (request : Request) → request_in body ≡ Some request → IsReadFrom body request
read_as body request is = by (body_cut_of body) refl is
  where
    by : (r : Result Cut CutRefusal) → body_cut_of body ≡ r → option_and_then (λ (cut : Cut). unrefused (request_of (values_of body cut.attrs) cut.children)) (unrefused r) ≡ Some request
        → IsReadFrom body request
    by (Ok cut) cut_is some = read_by body request cut (request_of (values_of body cut.attrs) cut.children) cut_is refl some
    by (Err refusal) cut_is some = absurd (cc)

-- the request of a body is read alike for a session and for its journal
same_unrefused : {E X : Type 0} (r : Result X E) → bodies.unrefused r ≡ unrefused r
same_unrefused (Ok x) = refl
same_unrefused (Err e) = refl

pub same_request : (body : List ℕ) → bodies.request_in body ≡ request_in body
same_request body = by (body_cut_of body)
  where
    by : (r : Result Cut CutRefusal) → option_and_then (λ (cut : Cut). bodies.unrefused (request_of (values_of body cut.attrs) cut.children)) (bodies.unrefused r)
        ≡ option_and_then (λ (cut : Cut). unrefused (request_of (values_of body cut.attrs) cut.children)) (unrefused r)
    by (Ok cut) = same_unrefused (request_of (values_of body cut.attrs) cut.children)
    by (Err refusal) = refl

terms_as : (kind : Kind) (terms : Terms) → terms_in kind ≡ Some terms → (creation : Creation) × (kind ≡ kinds.Creation creation) × (terms ≡ terms_of creation)
terms_as (kinds.Creation creation) terms is = (creation, refl, cc)
terms_as (kinds.Later sid) terms is = absurd (cc)

none_is_some : {X : Type 0} (o : Option X) (x : X) → o ≡ None → o ≡ Some x → ⊥
none_is_some o x without some = cc

one_some : {X : Type 0} (x y : X) (o : Option X) → o ≡ Some x → o ≡ Some y → x ≡ y
one_some x y o one other = cc

module _ (sid host : List ℕ) (greeting : List (List ℕ)) (body : List ℕ) (now limit gap_waits : ℕ) where
  abbrev call : Entered
  call = stored.Open sid host greeting body now limit gap_waits

  opening_read : (r : Option Request) → request_in body ≡ r → opening_in call ≡ option_and_then (opening_with sid host greeting body now limit gap_waits) r
  opening_read r is = ap (option_and_then (opening_with sid host greeting body now limit gap_waits)) is

  -- a body that gives no request
  pub unread : request_in body ≡ None → IsOpeningOf call None
  unread without = λ o is opening. none_is_some (opening_in call) o (opening_read None without) is

  module _ (request : Request) (read : request_in body ≡ Some request) where
    opening_terms : (t : Option Terms) → terms_in request.kind ≡ t → opening_in call ≡ option_map (opening_by sid host greeting body now limit gap_waits request) t
    opening_terms t is = opening_read (Some request) read ∙ ap (option_map (opening_by sid host greeting body now limit gap_waits request)) is

    -- a request that is no creation
    pub no_terms : terms_in request.kind ≡ None → IsOpeningOf call None
    no_terms without = λ o is opening. none_is_some (opening_in call) o (opening_terms None without) is

    module _ (terms : Terms) (has : terms_in request.kind ≡ Some terms) where
      abbrev o : Opening
      o = opening_by sid host greeting body now limit gap_waits request terms

      unless : {may : Bool} → may ≡ false → (IsOpening o → may ≡ true) → IsOpeningOf call None
      unless {may} fails fits = λ other is opening.
          let same : o ≡ other = one_some o other (opening_in call) (opening_terms (Some terms) has) is in
          absurd (true_is_false (sym (subst (λ (p : Opening). IsOpening p → may ≡ true) same fits opening) ∙ fails))
        where
          true_is_false : true ≡ false → ⊥
          true_is_false clash = cc

      -- a number of waits that can't be
      pub waits_wrong : may_wait gap_waits ≡ false → IsOpeningOf call None
      waits_wrong fails = unless fails (λ is. ap₂ (λ a b. a && b) (le-leb 1 gap_waits is.gap.0) (le-leb gap_waits 10 is.gap.1))

      -- a name, a host or a greeting that can't be
      pub unfit : may_stand sid host greeting ≡ false → IsOpeningOf call None
      unfit fails = unless fails (λ is.
          ap₂ (λ a b. a && (b && may_greet greeting)) (of_within 1 64 sid is.sid) (of_within 1 1023 host is.host) ∙ of_greeting greeting is.greeting)

      pub opens : may_wait gap_waits ≡ true → may_stand sid host greeting ≡ true → IsOpeningOf call (Some o)
      opens waits may =
          let first = both (is_text_within 1 64 sid) (is_text_within 1 1023 host && may_greet greeting) may in
          let second = both (is_text_within 1 1023 host) (may_greet greeting) first.1 in
          let gap = both (nat_le 1 gap_waits) (nat_le gap_waits 10) waits in (
            opening_terms (Some terms) has,
            record {
              read = read_as body request read;
              creation = terms_as request.kind terms has;
              sid = within_of 1 64 sid first.0;
              host = within_of 1 1023 host second.0;
              gap = (leb-true 1 gap_waits gap.0, leb-true gap_waits 10 gap.1);
              greeting = greeting_fits greeting second.1;
            },
          )

-- the opening that an entry tells makes its journal, and without one there is none
pub opened_legal : (e : Entry) (o : Opening) → opening_in e.call ≡ Some o → IsOpening o → IsLegal (e ∷ [])
opened_legal e o is opening = (record { opening = o; entries = [] }, record { told = ap (λ x. all_of opened_with x (Some [])) is; made = (opening, no_entries) })

pub not_opened : (e : Entry) → IsOpeningOf e.call None → IsLegal (e ∷ []) → ⊥
not_opened e never legal =
    let both_there = all_there opened_with (opening_in e.call) (Some []) legal.0 (legal.1).told in
    never both_there.0 both_there.2 (subst (λ (j : Journal). IsOpening j.opening) both_there.4 ((legal.1).made).0)

-- an entry goes behind the journal of a session that there is
module _ (logs logs' : List (List Entry)) (session place : ℕ) (is_at : session ≡ suc place) (e : Entry) where
  at_place : (xs : List (List Entry)) → log_at xs session ≡ get_or xs place []
  at_place xs = ap (log_at xs) is_at

  away : (other : ℕ) → (other == session) ≡ false → other ≢ suc place
  away other apart same = eqb-false other session apart (same ∙ sym is_at)

  module _ (within : place < length logs) where
    pub goes_at : IsLegal (get_or logs place [] ++ e ∷ []) → logs' ≡ set logs place (get_or logs place [] ++ e ∷ []) → GoesBehind logs session e logs'
    goes_at legal is = record {
      numbered = omega (arith, is_at);
      next = omega (arith, is_at, within);
      legal = subst (λ (l : List Entry). IsLegal (l ++ e ∷ [])) (sym (at_place logs)) legal;
      count = omega (arith, is_at, within, ap length is, length-set logs place (get_or logs place [] ++ e ∷ []));
      mine = at_place logs' ∙ ap (λ (xs : List (List Entry)). get_or xs place []) is ∙ get_or-set_same logs place (get_or logs place [] ++ e ∷ []) [] within
          ∙ ap (λ (l : List Entry). l ++ e ∷ []) (sym (at_place logs));
      others = others;
    }
      where
        others : (other : ℕ) → (other == session) ≡ false → log_at logs' other ≡ log_at logs other
        others zero apart = refl
        others (suc n) apart =
            ap (λ (xs : List (List Entry)). get_or xs n []) is
            ∙ get_or-set_other logs place n (get_or logs place [] ++ e ∷ []) [] (λ same. away (suc n) apart (ap suc same))

    -- or it may not
    pub may_not_at : (IsLegal (get_or logs place [] ++ e ∷ []) → ⊥) → logs' ≡ logs → Enters logs session e replayed.Damaged logs'
    may_not_at never same = (same, λ some next legal. never (subst (λ (l : List Entry). IsLegal (l ++ e ∷ [])) (at_place logs) legal))

  -- the next session is opened
  module _ (next : place ≡ length logs) where
    none_there : log_at logs session ≡ []
    none_there = at_place logs ∙ get_or-eq_default logs [] (omega (arith, next))

    pub opens_next : IsLegal (e ∷ []) → logs' ≡ logs ++ (e ∷ []) ∷ [] → GoesBehind logs session e logs'
    opens_next legal is = record {
      numbered = omega (arith, is_at);
      next = omega (arith, is_at, next);
      legal = subst (λ (l : List Entry). IsLegal (l ++ e ∷ [])) (sym none_there) legal;
      count = omega (arith, is_at, next, ap length is, length-append logs ((e ∷ []) ∷ []));
      mine = at_place logs' ∙ ap (λ (xs : List (List Entry)). get_or xs place []) is ∙ last logs place next ∙ sym (ap (λ (l : List Entry). l ++ e ∷ []) none_there);
      others = others;
    }
      where
        last : (xs : List (List Entry)) (n : ℕ) → n ≡ length xs → get_or (xs ++ (e ∷ []) ∷ []) n [] ≡ e ∷ []
        last [] n is = ap (λ k. get_or ((e ∷ []) ∷ []) k []) is
        last (x ∷ xs) zero is = absurd (omega (arith, is))
        last (x ∷ xs) (suc n) is = last xs n (omega (arith, is))

        before : (xs : List (List Entry)) (n : ℕ) → n ≢ length xs → get_or (xs ++ (e ∷ []) ∷ []) n [] ≡ get_or xs n []
        before [] zero apart = absurd (apart refl)
        before [] (suc n) apart = refl
        before (x ∷ xs) zero apart = refl
        before (x ∷ xs) (suc n) apart = before xs n (λ same. apart (ap suc same))

        others : (other : ℕ) → (other == session) ≡ false → log_at logs' other ≡ log_at logs other
        others zero apart = refl
        others (suc n) apart = ap (λ (xs : List (List Entry)). get_or xs n []) is ∙ before logs n (λ same. away (suc n) apart (ap suc (same ∙ sym next)))

    pub not_next : (IsLegal (e ∷ []) → ⊥) → logs' ≡ logs → Enters logs session e replayed.Damaged logs'
    not_next never same = (same, λ some few legal. never (subst (λ (l : List Entry). IsLegal (l ++ e ∷ [])) none_there legal))

  -- the number is further on
  pub too_far : length logs < place → logs' ≡ logs → Enters logs session e replayed.Damaged logs'
  too_far far same = (same, λ some few legal. absurd (omega (arith, far, few, is_at)))

pub no_number : (logs logs' : List (List Entry)) (session : ℕ) (e : Entry) → session ≡ 0 → logs' ≡ logs → Enters logs session e replayed.Damaged logs'
no_number logs logs' session e none same = (same, λ some few legal. absurd (omega (arith, none, some)))

-- what a content says is entered, or is damage
pub replays_by : (r : Result Replayed AllocError) (logs logs' : List (List Entry)) (content : List ℕ) (e : SessionEntry)
    → (content ≡ content_of e.session e.entry) × HasContent e.session e.entry → entry_at content ≡ Some e
    → IfOk r (λ what. Enters logs e.session e.entry what logs') → IfOk r (λ what. Replays logs content what logs')
replays_by (Ok replayed.Entered) logs logs' content e is at enters = (e, is.0, is.1, enters)
replays_by (Ok replayed.Damaged) logs logs' content e is at enters = (
  enters.0,
  λ other at_other some few legal.
      let same : e ≡ other = one_some e other (entry_at content) at at_other in
      subst (λ (x : SessionEntry). IsLegal (log_at logs x.session ++ x.entry ∷ []) → 1 ≤ x.session → x.session ≤ length logs + 1 → ⊥) same (λ legal some few. enters.1 some few legal) legal some few,
)
replays_by (Err error) logs logs' content e is at enters = tt
