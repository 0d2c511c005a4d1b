-- What each step of the cutter keeps.
use Rattle.std.proofs.Common.{◌≡◌, ◌∙◌, ◌+◌, ◌<◌, ◌≤◌, ℕ, Bool, true, false, List, [], ◌∷◌, ◌++◌, length, take, drop, refl, sym, ap, subst, arith, append_assoc, append-nil, length-append}
use Rattle.std.specs.Prelude.{None, Some, IsTrue, Result, Ok, Err, IfOk, OnErr, ◌||◌, ◌==◌, nat_le, nat_lt}
use Rattle.std.specs.List.{list_any}
use Rattle.std.proofs.lemmas.Bool.Decides.{nat_tests}
use Rattle.std.proofs.lemmas.List.{take-append-drop, length-take, take-append-le}
use Rattle.body_cutter.specs.BodyText.{IsStanza}
use Rattle.body_cutter.specs.Chars.{is_space}
use Rattle.body_cutter.specs.Cutting.{is_stanza}
use Rattle.body_cutter.proofs.Cuts.{stanza_is}
use Rattle.xmpp_stream.specs.declared.scan.Scan.{Scan}
use Rattle.xmpp_stream.specs.declared.stage.Mark.TheVariants.{Element}
use Rattle.xmpp_stream.specs.declared.stage.Stage.{Stage}
use Rattle.xmpp_stream.specs.declared.stage.Stage.TheVariants.{Begun, Waits, Inside, Ended}
use Rattle.xmpp_stream.specs.declared.stream_cutter.State.{State}
use Rattle.xmpp_stream.specs.declared.stream_cutter.Step.{Step}
use Rattle.xmpp_stream.specs.declared.stream_cutter.Step.TheVariants.{Found}
use Rattle.xmpp_stream.specs.declared.stream_cutter.StreamCutter.{StreamCutter}
use Rattle.xmpp_stream.specs.declared.stream_cutter.StreamItem.TheVariants.{Broken}
use Rattle.xmpp_stream.specs.declared.scan.Scanned.{Scanned}
use Rattle.xmpp_stream.specs.Cut.{Finds, GivesNext, GoesWrong, HasEnded, Holds, IsCut, Steps, IsUnfinished, IsWaiting, IsWrong, IsWrongBefore, Scans, counted, is_long, is_over}
use Rattle.xmpp_stream.specs.Qualified.{qualified}
use Rattle.xmpp_stream.specs.Stream.{Reads, after_space, after_tag, error_mark, is_ended, is_named, longest_tag, mark_in, mark_of}
use Rattle.xmpp_stream.specs.Tag.{tag_end}
use Rattle.xmpp_stream.proofs.ScanLemmas.{ok_is}
use Rattle.xmpp_stream.proofs.TagLemmas.{element_named, whole_tag}

neither : (a b : Bool) → (a || b) ≡ false → (a ≡ false) × (b ≡ false)
neither false b h = (refl, h)
neither true b h = absurd (cc)

true_false : {P : Type 0} {b : Bool} → b ≡ true → b ≡ false → P
true_false h k = absurd (cc)

take_all : (xs : List ℕ) → take (length xs) xs ≡ xs
take_all [] = refl
take_all (x ∷ xs) = ap (λ (ys : List ℕ). x ∷ ys) (take_all xs)

-- before anything was fed
abbrev pub first_state : State
first_state = record { stage = Begun; is_broken = false; has_error = false; place = 0 }

-- nothing was cut, and nothing is kept
pub begins : (scan : Scan) (state : State) → Scans scan [] → state.stage ≡ Begun → state.is_broken ≡ false → state.has_error ≡ false → state.place ≡ 0 → Holds [] scan state [] []
begins scan state scans stage broken error place = record {
  done = [];
  rest = [];
  fed_is = refl;
  reads = subst (λ (s : Stage). Reads [] s []) (sym stage) Reads.nothing;
  error = error;
  place = place;
  kept_is = λ _. refl;
  within = λ _. omega (arith, scans.0);
  scans = λ _. subst (λ (n : ℕ). Scans scan (take n [])) (sym scans.0) scans;
  wrong = λ b. true_false b broken;
}

pub ended_is : (stage : Stage) → is_ended stage ≡ true → stage ≡ Ended
ended_is Begun h = absurd (cc)
ended_is Waits h = absurd (cc)
ended_is Inside h = absurd (cc)
ended_is Ended h = refl

pub not_over : (state : State) → state.is_broken ≡ false → is_ended state.stage ≡ false → is_over state ≡ false
not_over state b e = rw (b, e) refl

module _ {kept : List ℕ} {scan : Scan} {state : State} {fed : List ℕ} {elements : List (List ℕ)} (h : Holds kept scan state fed elements) where
  -- a piece that is put to what is kept
  pub fed_more : (piece : List ℕ) → is_over state ≡ false → Holds (kept ++ piece) scan state (fed ++ piece) elements
  fed_more piece o = record {
    done = h.done;
    rest = h.rest ++ piece;
    fed_is = ap (λ (xs : List ℕ). xs ++ piece) h.fed_is ∙ append_assoc h.done h.rest piece;
    reads = h.reads;
    error = h.error;
    place = h.place;
    kept_is = λ k. ap (λ (xs : List ℕ). xs ++ piece) (h.kept_is k);
    within = λ k. omega (arith, h.within k, length-append h.rest piece);
    scans = λ k. subst (Scans scan) (sym (take-append-le scan.count h.rest piece (h.within k))) (h.scans k);
    wrong = λ b. true_false b (neither state.is_broken (is_ended state.stage) o).0;
  }

  -- one that isn't
  pub fed_past : (piece : List ℕ) → is_over state ≡ true → Holds kept scan state (fed ++ piece) elements
  fed_past piece o = record {
    done = h.done;
    rest = h.rest ++ piece;
    fed_is = ap (λ (xs : List ℕ). xs ++ piece) h.fed_is ∙ append_assoc h.done h.rest piece;
    reads = h.reads;
    error = h.error;
    place = h.place;
    kept_is = λ k. true_false o k;
    within = λ k. true_false o k;
    scans = λ k. true_false o k;
    wrong = λ b. let w = h.wrong b in record {
      front = w.front;
      back = w.back ++ piece;
      is = ap (λ (xs : List ℕ). xs ++ piece) w.is ∙ append_assoc w.front w.back piece;
      wrong = w.wrong;
    };
  }

  -- what went wrong is told again
  pub told_wrong : state.is_broken ≡ true → GoesWrong state.place fed elements
  told_wrong b = record { done = h.done; rest = h.rest; stage = state.stage; fed_is = h.fed_is; reads = h.reads; place_is = h.place; wrong = h.wrong b }

  -- and so is the end
  pub told_ended : state.stage ≡ Ended → HasEnded fed elements
  told_ended e = record { done = h.done; rest = h.rest; fed_is = h.fed_is; reads = subst (λ (s : Stage). Reads h.done s elements) e h.reads }

  -- nothing of what is kept is whole
  pub told_waiting : is_over state ≡ false → IsUnfinished state.stage kept → IsWaiting fed elements
  told_waiting o u = record { done = h.done; rest = h.rest; stage = state.stage; fed_is = h.fed_is; reads = h.reads; unfinished = subst (IsUnfinished state.stage) (h.kept_is o) u }

  -- what is scanned, of the same bytes
  pub scanned : (new_scan : Scan) → is_over state ≡ false → Scans new_scan (take new_scan.count kept) → new_scan.count ≤ length kept → Holds kept new_scan state fed elements
  scanned new_scan o scans within = record {
    done = h.done;
    rest = h.rest;
    fed_is = h.fed_is;
    reads = h.reads;
    error = h.error;
    place = h.place;
    kept_is = h.kept_is;
    within = λ _. subst (λ (xs : List ℕ). new_scan.count ≤ length xs) (h.kept_is o) within;
    scans = λ _. subst (λ (xs : List ℕ). Scans new_scan (take new_scan.count xs)) (h.kept_is o) scans;
    wrong = h.wrong;
  }

  -- what is kept goes wrong
  module _ (o : is_over state ≡ false) (w : IsWrong state.stage kept) where
    before : IsWrongBefore state.stage h.rest
    before = record { front = kept; back = []; is = sym (h.kept_is o) ∙ sym (append-nil kept); wrong = w }

    pub goes_wrong : GoesWrong state.place fed elements
    goes_wrong = record { done = h.done; rest = h.rest; stage = state.stage; fed_is = h.fed_is; reads = h.reads; place_is = h.place; wrong = before }

    pub breaks : (new_scan : Scan) → Holds kept new_scan (record state { is_broken = true }) fed elements
    breaks new_scan = record {
      done = h.done;
      rest = h.rest;
      fed_is = h.fed_is;
      reads = h.reads;
      error = h.error;
      place = h.place;
      kept_is = λ k. absurd (cc);
      within = λ k. absurd (cc);
      scans = λ k. absurd (cc);
      wrong = λ _. before;
    }

  -- so many bytes of what is kept are passed
  module _ (o : is_over state ≡ false) (count : ℕ) (within_ : count ≤ length kept) (new_kept : List ℕ) (new_scan : Scan) (new : State) (given : List (List ℕ))
      (kept_is_ : new_kept ≡ drop count kept) (scans_ : Scans new_scan []) (place_ : (passed : ℕ) → state.place ≡ counted passed → new.place ≡ counted (passed + count))
      (unbroken : new.is_broken ≡ false) (error_ : new.has_error ≡ list_any (is_named error_mark) given) where
    length_is : length h.done + count ≡ length (h.done ++ take count kept)
    length_is = omega (arith, length-append h.done (take count kept), length-take count kept, within_)

    pub moved : Reads (h.done ++ take count kept) new.stage given → Holds new_kept new_scan new fed given
    moved r = record {
      done = h.done ++ take count kept;
      rest = new_kept;
      fed_is = h.fed_is ∙ ap (λ (xs : List ℕ). h.done ++ xs) (sym (h.kept_is o) ∙ sym (take-append-drop count kept)) ∙ sym (append_assoc h.done (take count kept) (drop count kept))
          ∙ ap (λ (xs : List ℕ). (h.done ++ take count kept) ++ xs) (sym kept_is_);
      reads = r;
      error = error_;
      place = place_ (length h.done) h.place ∙ ap counted length_is;
      kept_is = λ _. refl;
      within = λ _. omega (arith, scans_.0);
      scans = λ _. subst (λ (n : ℕ). Scans new_scan (take n new_kept)) (sym scans_.0) scans_;
      wrong = λ b. true_false b unbroken;
    }

-- what is scanned anew
pub scanned_anew : {kept : List ℕ} {scan : Scan} {state : State} {fed : List ℕ} {elements : List (List ℕ)} → Holds kept scan state fed elements → (new_scan : Scan) → is_over state ≡ false → Scans new_scan [] → Holds kept new_scan state fed elements
scanned_anew {kept} h new_scan o s = scanned h new_scan o (subst (λ (n : ℕ). Scans new_scan (take n kept)) (sym s.0) s) (omega (arith, s.0))

-- all of what is kept was scanned
pub scanned_more : {kept : List ℕ} {scan : Scan} {state : State} {fed : List ℕ} {elements : List (List ℕ)} → Holds kept scan state fed elements → (new_scan : Scan) → is_over state ≡ false → Scans new_scan kept → Holds kept new_scan state fed elements
scanned_more {kept} h new_scan o s = scanned h new_scan o (subst (Scans new_scan) (sym (ap (λ (n : ℕ). take n kept) s.0 ∙ take_all kept)) s) (omega (arith, s.0))

-- what is found in what is kept
pub found_in : {E : Type 0} {kept : List ℕ} {scan : Scan} {state : State} {fed : List ℕ} {elements : List (List ℕ)} → Holds kept scan state fed elements → is_over state ≡ false → (rest : List ℕ) → rest ≡ kept → (new : Scan) →
    (r : Result Scanned E) (found : Scanned) → r ≡ Ok found → (scan.count ≤ length rest → Scans scan (take scan.count rest) → IfOk r (λ f. Finds f new rest)) → Finds found new kept
found_in {E} {kept} {scan} h o rest same new r found was told =
    subst (λ (xs : List ℕ). Finds found new xs) same
    (ok_is (λ (f : Scanned). Finds f new rest) r found was
    (told (subst (λ (xs : List ℕ). scan.count ≤ length xs) (sym (same ∙ h.kept_is o)) (h.within o))
    (subst (λ (xs : List ℕ). Scans scan (take scan.count xs)) (sym (same ∙ h.kept_is o)) (h.scans o))))

pub nonempty : (kept rest : List ℕ) (b : ℕ) → kept ≡ b ∷ rest → 1 ≤ length kept
nonempty kept rest b e = subst (λ (xs : List ℕ). 1 ≤ length xs) (sym e) (omega arith)

pub other_byte : (a b : ℕ) → (a ≡ b → ⊥) → (a == b) ≡ false
other_byte a b n = grind (arith, nat_tests)

pub long_open : (kept : List ℕ) → tag_end 0 None kept ≡ None → 4096 ≤ length kept → is_long (length kept) (tag_end 0 None kept) ≡ true
long_open kept e long = let test : nat_le 4096 (length kept) ≡ true = grind (arith, nat_tests) in ap (is_long (length kept)) e ∙ test

pub long_whole : (kept : List ℕ) (count : ℕ) → tag_end 0 None kept ≡ Some count → 4096 < count → is_long (length kept) (tag_end 0 None kept) ≡ true
long_whole kept count e long = let test : nat_lt 4096 count ≡ true = grind (arith, nat_tests) in ap (is_long (length kept)) e ∙ test

-- an error after which all is as before
pub on_err : {T E : Type 0} (r : Result T E) (P : Type 0) → P → OnErr r P
on_err (Ok x) P p = tt
on_err (Err e) P p = p

pub on_err_map : {T E : Type 0} (r : Result T E) (P Q : Type 0) → (P → Q) → OnErr r P → OnErr r Q
on_err_map (Ok x) P Q f p = tt
on_err_map (Err e) P Q f p = f p

-- the stream goes wrong where it stands
pub broken_step : {fed : List ℕ} {elements : List (List ℕ)} (old new : StreamCutter) (scan : Scan) (step : Step) → Holds old.kept scan old.state fed elements → is_over old.state ≡ false →
    IsWrong old.state.stage old.kept → step ≡ Found (Broken old.state.place) → new ≡ record old { state = record old.state { is_broken = true } } → Steps step new fed elements
unfolding IsCut
broken_step {fed} {elements} old new scan step h o w told is =
    subst (λ (s : Step). Steps s new fed elements) (sym told)
    (subst (λ (x : StreamCutter). IsCut x fed elements × GoesWrong old.state.place fed elements) (sym is) (breaks h o w old.scan, goes_wrong h o w))

or_false : (b : Bool) → (b || false) ≡ b
or_false true = refl
or_false false = refl

or_assoc : (a b c : Bool) → (a || (b || c)) ≡ ((a || b) || c)
or_assoc true b c = refl
or_assoc false b c = refl

any_more : (test : List ℕ → Bool) (elements : List (List ℕ)) (element : List ℕ) → list_any test (elements ++ element ∷ []) ≡ (list_any test elements || test element)
any_more test [] element = or_false (test element)
any_more test (first ∷ elements) element = ap (λ (b : Bool). test first || b) (any_more test elements element) ∙ or_assoc (test first) (list_any test elements) (test element)

element_inside : (stage : Stage) (text : List ℕ) → mark_in stage text ≡ Element → (stage ≡ Inside) × (mark_of text ≡ Element)
element_inside Begun text h = absurd (cc)
element_inside Waits text h = absurd (cc)
element_inside Inside text h = (refl, h)
element_inside Ended text h = absurd (cc)

-- so many bytes are passed
module _ {fed : List ℕ} {elements : List (List ℕ)} (old new : StreamCutter) (count : ℕ) (stage : Stage) (kept_ : new.kept ≡ drop count old.kept) (scan_ : Scans new.scan [])
    (stage_ : new.state.stage ≡ stage) (broken_ : new.state.is_broken ≡ old.state.is_broken) (place_ : (passed : ℕ) → old.state.place ≡ counted passed → new.state.place ≡ counted (passed + count))
    (h : Holds old.kept old.scan old.state fed elements) (o : is_over old.state ≡ false) (within : count ≤ length old.kept) where
  after : (given : List (List ℕ)) → new.state.has_error ≡ list_any (is_named error_mark) given → Reads (h.done ++ take count old.kept) stage given → IsCut new fed given
  unfolding IsCut
  after given e r =
      moved h o count within new.kept new.scan new.state given kept_ scan_ place_ (broken_ ∙ (neither old.state.is_broken (is_ended old.state.stage) o).0) e
      (subst (λ (s : Stage). Reads (h.done ++ take count old.kept) s given) (sym stage_) r)

  -- white space
  pub space_step : (b : ℕ) → count ≡ 1 → old.kept ≡ b ∷ drop 1 old.kept → is_space b ≡ true → stage ≡ after_space old.state.stage → new.state.has_error ≡ old.state.has_error → IsCut new fed elements
  space_step b one begins is to e =
      let front : take count old.kept ≡ b ∷ [] = ap (λ (n : ℕ). take n old.kept) one ∙ ap (take 1) begins in
      after elements (e ∙ h.error)
      (subst (λ (s : Stage). Reads (h.done ++ take count old.kept) s elements) (sym to)
      (subst (λ (xs : List ℕ). Reads (h.done ++ xs) (after_space old.state.stage) elements) (sym front) (Reads.space b is h.reads)))

  -- a tag of the stream itself
  pub tag_step : tag_end 0 None old.kept ≡ Some count → count ≤ longest_tag → after_tag old.state.stage (take count old.kept) ≡ Some stage → new.state.has_error ≡ old.state.has_error → IsCut new fed elements
  tag_step ends long leads e =
      let l : length (take count old.kept) ≤ longest_tag = omega (arith, length-take count old.kept, long) in
      after elements (e ∙ h.error) (Reads.tag (take count old.kept) (whole_tag old.kept count ends within) l leads h.reads)

  -- an element
  pub element_step : (text : List ℕ) → text ≡ qualified (take count old.kept) → mark_in old.state.stage old.kept ≡ Element → IsStanza (take count old.kept) → IsTrue (is_stanza (qualified (take count old.kept))) →
      stage ≡ Inside → new.state.has_error ≡ (old.state.has_error || is_named error_mark (take count old.kept)) → GivesNext text new fed elements
  element_step text is mark stanza alone inside e =
      let m = element_inside old.state.stage old.kept mark in
      let bytes = take count old.kept in
      record {
        element = bytes;
        text_is = is;
        cut = after (elements ++ bytes ∷ [])
            (e ∙ ap (λ (b : Bool). b || is_named error_mark bytes) h.error ∙ sym (any_more (is_named error_mark) elements bytes))
            (subst (λ (s : Stage). Reads (h.done ++ bytes) s (elements ++ bytes ∷ [])) (sym inside)
            (Reads.element bytes stanza (element_named old.kept count m.1) ((stanza_is (qualified bytes)).0 alone) (subst (λ (s : Stage). Reads h.done s elements) m.0 h.reads)));
      }
