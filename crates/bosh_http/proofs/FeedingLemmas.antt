-- Reading the next request, where its content goes to a feed.
use Rattle.std.proofs.Common.{◌≡◌, ℕ, ◌+◌, ◌-◌, ◌<◌, ◌≤◌, ◌⊎◌, ◌==◌, true, false, if◌then◌else◌, List, [], ◌++◌, Bool, Option, None, Some, length, take, drop, inl, inr, refl, sym, ◌∙◌, ap, ap₂, subst, arith, append_assoc, append-nil, length-append, length-take-le, drop-drop}
use Rattle.std.proofs.Math.Seq.{drop-append_seam, drop-append-le, take-append_seam}
use Rattle.std.proofs.lemmas.List.{take-append-drop, nil_from_length}
use Rattle.std.proofs.lemmas.Bool.{eqb-true}
use Rattle.std.proofs.KnownBytes.{Consumes-nil, Consumes-trans, Consumes-kept, Consumes-whole}
use Rattle.std.specs.Prelude.{Result, Ok, Err, OnErr}
use Rattle.std.specs.Io.KnownBytes.{Consumes, Keeps, IsAtEnd, prepend_known}
use Rattle.httparse.specs.Grammar.{HasNoRequest}
use Rattle.bosh_http.specs.Feeding.{IsEndOf, FedBy, FedOver, LetsGo, ReadsFed}
use Rattle.bosh_http.specs.Judging.{IsServed, IsRefusedBy}
use Rattle.bosh_http.specs.Message.{IsHeadBegun, IsRefused}
use Rattle.bosh_http.specs.Reader.{PassesOn, OpenedOver, WantsContent}
use Rattle.bosh_http.specs.Reading.{IsAllOf}
use Rattle.bosh_http.specs.Taking.{TakesMore}
use Rattle.bosh_http.specs.declared.feeding.HttpFed.{HttpFed}
use Rattle.bosh_http.specs.declared.feeding.HttpFed.TheVariants.{Request, Refused, End, ReadFault}
use Rattle.bosh_http.specs.declared.reader.Opened.TheVariants as opened
use Rattle.bosh_http.specs.declared.refusal.HttpRefusal.{HttpRefusal}
use Rattle.bosh_http.specs.declared.refusal.HttpRefusal.TheVariants.{Cut}
use Rattle.bosh_http.proofs.JudgingLemmas.{IsServed-append, IsRefusedBy-append}
use Rattle.bosh_http.proofs.ReadingLemmas.{message_is, content_to_come, some_came, some_left, message_more}

-- a fact holds where there is an error
pub on_err_here : {T E P : Type 0} (r : Result T E) → P → OnErr r P
on_err_here (Ok x) p = tt
on_err_here (Err e) p = p

-- ---- a content that is being fed

-- what came of a link, where before was there and now is, went to the feed: of a content so many bytes are left
pub record Feeding (left left' : Option (List ℕ)) (before now fed : List ℕ) (content rest : ℕ) : Type 0 where
  pub came : List ℕ
  pub consumes : Consumes left left' came
  pub parts : before ++ came ≡ fed ++ now
  pub size : content ≡ length fed + rest
  pub all : (rest ≡ 0) ⊎ (now ≡ [])

-- the first piece
pub feeding_first : (left : Option (List ℕ)) (before now begun fed : List ℕ) (content rest : ℕ) → begun ≡ [] → PassesOn before now begun fed content rest → Feeding left left before now fed content rest
feeding_first left before now begun fed content rest none passes = record {
  came = [];
  consumes = Consumes-nil left;
  parts = append-nil before ∙ passes.parts ∙ ap (λ f. f ++ now) (ap (λ b. b ++ passes.part) (sym none) ∙ sym passes.fed_is);
  size = passes.left_is ∙ ap (λ f. length f + rest) (ap (λ b. b ++ passes.part) (sym none) ∙ sym passes.fed_is);
  all = passes.all;
}

-- more came, and the next piece
pub feeding_on : (left mid left' : Option (List ℕ)) (before now more now' fed fed' : List ℕ) (content rest rest' : ℕ) → Feeding left mid before now fed content rest → TakesMore mid left' now more → PassesOn more now' fed fed' rest rest'
    → Feeding left left' before now' fed' content rest'
feeding_on left mid left' before now more now' fed fed' content rest rest' f takes passes = record {
  came = f.came ++ takes.0;
  consumes = Consumes-trans left mid left' f.came takes.0 f.consumes takes.1;
  parts = sym (append_assoc before f.came takes.0) ∙ ap (λ l. l ++ takes.0) f.parts ∙ append_assoc fed now takes.0 ∙ ap (λ l. fed ++ l) (sym takes.2 ∙ passes.parts)
      ∙ sym (append_assoc fed passes.part now') ∙ ap (λ l. l ++ now') (sym passes.fed_is);
  size = omega (arith, f.size, passes.left_is, ap length passes.fed_is, length-append fed passes.part);
  all = passes.all;
}

-- more came, and nothing of it is kept yet
pub feeding_same : (left mid left' : Option (List ℕ)) (before now kept fed : List ℕ) (content rest : ℕ) → Feeding left mid before now fed content rest → TakesMore mid left' now kept → kept ≡ now → Feeding left left' before kept fed content rest
feeding_same left mid left' before now kept fed content rest f takes same = record {
  came = f.came ++ takes.0;
  consumes = Consumes-trans left mid left' f.came takes.0 f.consumes takes.1;
  parts = sym (append_assoc before f.came takes.0) ∙ ap (λ l. l ++ takes.0) f.parts ∙ append_assoc fed now takes.0 ∙ ap (λ l. fed ++ l) (sym takes.2);
  size = f.size;
  all = subst (λ k. (rest ≡ 0) ⊎ (k ≡ [])) (sym same) f.all;
}

-- want of memory before anything was fed
pub lets_go_first : (left : Option (List ℕ)) (seen before now : List ℕ) (start : ℕ) → before ≡ drop start seen → now ≡ before → LetsGo left left seen now
lets_go_first left seen before now start before_is same = (
  [],
  Consumes-nil left,
  (take start seen, append-nil seen ∙ sym (take-append-drop start seen) ∙ ap (λ l. take start seen ++ l) (sym before_is ∙ sym same)),
)

module _ (left left' : Option (List ℕ)) (seen before now fed : List ℕ) (start content rest : ℕ) (there : start ≤ length seen) (before_is : before ≡ drop start seen) where
  -- all that was seen by then is the head, what was fed and what is kept
  seen_parts : (f : Feeding left left' before now fed content rest) → seen ++ f.came ≡ take start seen ++ (fed ++ now)
  seen_parts f =
      ap (λ l. l ++ f.came) (sym (take-append-drop start seen)) ∙ append_assoc (take start seen) (drop start seen) f.came
      ∙ ap (λ l. take start seen ++ l) (ap (λ l. l ++ f.came) (sym before_is) ∙ f.parts)

  pub seen_end : (f : Feeding left left' before now fed content rest) → IsEndOf now (seen ++ f.came)
  seen_end f = (take start seen ++ fed, seen_parts f ∙ sym (append_assoc (take start seen) fed now))

  behind_head : (f : Feeding left left' before now fed content rest) → drop start (seen ++ f.came) ≡ fed ++ now
  behind_head f = drop-append-le start seen f.came there ∙ ap (λ l. l ++ f.came) (sym before_is) ∙ f.parts

  seen_size : (f : Feeding left left' before now fed content rest) → length (seen ++ f.came) ≡ start + (length fed + length now)
  seen_size f =
      ap length (seen_parts f) ∙ length-append (take start seen) (fed ++ now) ∙ ap₂ (λ a b. a + b) (length-take-le start seen there) (length-append fed now)

  pub lets_go : Feeding left left' before now fed content rest → LetsGo left left' seen now
  lets_go f = (f.came, f.consumes, seen_end f)

  -- want of memory after more came
  pub lets_go_more : (last : Option (List ℕ)) (kept : List ℕ) → Feeding left left' before now fed content rest → TakesMore left' last now kept → LetsGo left last seen kept
  lets_go_more last kept f (more, consumes, kept_is) = (
    f.came ++ more,
    Consumes-trans left left' last f.came more f.consumes consumes,
    (
      take start seen ++ fed,
      sym (append_assoc seen f.came more) ∙ ap (λ l. l ++ more) (seen_parts f ∙ sym (append_assoc (take start seen) fed now)) ∙ append_assoc (take start seen ++ fed) now more
          ∙ ap (λ l. (take start seen ++ fed) ++ l) (sym kept_is),
    ),
  )

  -- all of the content was fed
  pub fed_request : (closing : Bool) → IsServed seen start content closing → Feeding left left' before now fed content rest → rest ≡ 0 → FedOver left left' seen now fed (Request closing)
  fed_request closing served f whole =
      let all = seen ++ f.came in
      let size : start + content - start ≡ length fed = omega (arith, f.size, whole) in
      let fits : start + content ≤ length all = omega (arith, f.size, whole, seen_size f) in
      let fed_size : content ≡ length fed = omega (arith, f.size, whole) in
      let body : fed ≡ take (start + content - start) (drop start all) = sym (ap₂ (λ n l. take n l) size (behind_head f) ∙ take-append_seam fed now) in (
        f.came,
        f.consumes,
        (
          start + content,
          message_is all fed start content closing (IsServed-append seen start content closing f.came served) fits body,
          sym (sym (drop-drop content start all) ∙ ap₂ (λ n l. drop n l) fed_size (behind_head f) ∙ drop-append_seam fed now),
        ),
      )

  wants_more : (closing : Bool) → IsServed seen start content closing → (f : Feeding left left' before now fed content rest) → 0 < rest → WantsContent IsServed (seen ++ f.came)
  wants_more closing served f some = record {
    start = start;
    content = content;
    said = closing;
    reads = IsServed-append seen start content closing f.came served;
    short = omega (arith, seen_size f, f.size, some, none_kept f.all);
  }
    where
      none_kept : (rest ≡ 0) ⊎ (now ≡ []) → length now ≡ 0
      none_kept (inl none) = absurd (omega (arith, none, some))
      none_kept (inr none) = ap length none

  -- the link failed
  pub fed_fault : (closing : Bool) → IsServed seen start content closing → Feeding left left' before now fed content rest → 0 < rest → FedOver left left' seen now fed ReadFault
  fed_fault closing served f some = (f.came, f.consumes, (inr (content_to_come (seen ++ f.came) (wants_more closing served f some)), seen_end f))

  -- the stream ended
  pub fed_cut : (last : Option (List ℕ)) (kept : List ℕ) (count : ℕ) (closing : Bool) → IsServed seen start content closing → Feeding left left' before now fed content rest → 0 < rest → IsAtEnd left' → Keeps left' last → kept ≡ now
      → count ≡ start + (content - rest) → FedOver left last seen kept fed (Refused (Cut count))
  fed_cut last kept count closing served f some end keeps same count_is =
      let all = seen ++ f.came in
      let wants = wants_more closing served f some in
      let size : count ≡ length all = omega (arith, count_is, seen_size f, f.size, none_kept f.all) in (
        f.came,
        Consumes-kept left left' last f.came f.consumes keeps,
        (
          (size, omega (arith, size, some_came all wants), inr (content_to_come all wants)),
          inr (Consumes-whole left left' f.came (λ bytes. f.came ≡ bytes) f.consumes end refl),
          subst (λ k. IsEndOf k all) (sym same) (seen_end f),
        ),
      )
    where
      none_kept : (rest ≡ 0) ⊎ (now ≡ []) → length now ≡ 0
      none_kept (inl none) = absurd (omega (arith, none, some))
      none_kept (inr none) = ap length none

-- ---- a head, and then its content

all_taken : (left mid : Option (List ℕ)) (x y : List ℕ) → Consumes left mid x → IsAllOf mid y → IsAllOf left (x ++ y)
all_taken None mid x y first all = tt
all_taken (Some xs) None x y first all = absurd first
all_taken (Some xs) (Some ys) x y first all = ap (λ r. x ++ r) all ∙ sym first

all_before : (answer : HttpFed) (seen kept content : List ℕ) (P Q : Type 0) → (P → Q) → FedBy seen kept P content answer → FedBy seen kept Q content answer
all_before (Request closing) seen kept content P Q f by = by
all_before (Refused refusal) seen kept content P Q f (refused, inl settled, end) = (refused, inl settled, end)
all_before (Refused refusal) seen kept content P Q f (refused, inr all, end) = (refused, inr (f all), end)
all_before End seen kept content P Q f (none, all, same) = (none, f all, same)
all_before ReadFault seen kept content P Q f by = by

pub fed_later : (left mid left' : Option (List ℕ)) (kept x kept' content : List ℕ) (answer : HttpFed) → Consumes left mid x → FedOver mid left' (kept ++ x) kept' content answer → FedOver left left' kept kept' content answer
fed_later left mid left' kept x kept' content answer first (y, then', by) = (
  x ++ y,
  Consumes-trans left mid left' x y first then',
  all_before answer (kept ++ (x ++ y)) kept' content (IsAllOf mid y) (IsAllOf left (x ++ y)) (all_taken left mid x y first)
      (subst (λ seen. FedBy seen kept' (IsAllOf mid y) content answer) (append_assoc kept x y) by),
)

pub lets_go_later : (left mid left' : Option (List ℕ)) (kept x kept' : List ℕ) → Consumes left mid x → LetsGo mid left' (kept ++ x) kept' → LetsGo left left' kept kept'
lets_go_later left mid left' kept x kept' first (y, then', (gone, parts)) = (x ++ y, Consumes-trans left mid left' x y first then', (gone, sym (append_assoc kept x y) ∙ parts))

-- want of memory while the head came
pub lets_go_none : (left left' : Option (List ℕ)) (kept kept' : List ℕ) → TakesMore left left' kept kept' → LetsGo left left' kept kept'
lets_go_none left left' kept kept' (x, consumes, is) = (x, consumes, ([], sym is))

-- ---- no head that is served

module _ (left left' : Option (List ℕ)) (kept kept' content : List ℕ) where
  pub fed_wrong : (refusal : HttpRefusal) → OpenedOver IsServed IsRefusedBy HasNoRequest IsHeadBegun left left' kept kept' (opened.Wrong refusal) → FedOver left left' kept kept' content (Refused refusal)
  fed_wrong refusal (x, consumes, (denied, same)) = (x, consumes, (denied.1, inl denied.0, ([], sym same)))

  pub fed_failed : OpenedOver IsServed IsRefusedBy HasNoRequest IsHeadBegun left left' kept kept' opened.Failed → FedOver left left' kept kept' content ReadFault
  fed_failed (x, consumes, (headless, same)) = (x, consumes, (inl (headless.short, headless.lacks), ([], sym same)))

  pub fed_ended : OpenedOver IsServed IsRefusedBy HasNoRequest IsHeadBegun left left' kept kept' opened.Ended → FedOver left left' kept kept' content (if length kept' == 0 then End else Refused (Cut (length kept')))
  fed_ended (x, consumes, (headless, all, same)) = (x, consumes, by_size (length kept' == 0) refl)
    where
      by_size : (none : Bool) → (length kept' == 0) ≡ none → FedBy (kept ++ x) kept' (IsAllOf left x) content (if none then End else Refused (Cut (length kept')))
      by_size true is = let nothing : kept' ≡ [] = nil_from_length kept' (eqb-true (length kept') 0 is) in (sym same ∙ nothing, all, nothing)
      by_size false is = ((ap length same, some_left (length kept') is, inl (rw (ap length same) headless.short, headless.begins refl)), inr all, ([], sym same))

-- ---- the answer by the whole rest of the stream

end_more : (seen kept rest : List ℕ) → IsEndOf kept seen → IsEndOf (kept ++ rest) (seen ++ rest)
end_more seen kept rest (gone, parts) = (gone, ap (λ l. l ++ rest) parts ∙ append_assoc gone kept rest)

reads_told : (seen kept rest content : List ℕ) (answer : HttpFed) → FedBy seen kept (rest ≡ []) content answer → ReadsFed (Some (seen ++ rest)) (Some (kept ++ rest)) content answer
reads_told seen kept rest content (Request closing) (count, message, kept_is) =
    let m = message_more seen content rest count closing message in
    (count, m.0, ap (λ k. k ++ rest) kept_is ∙ sym (drop-append-le count seen rest m.1))
reads_told seen kept rest content (Refused refusal) (refused, inl settled, end) = ((IsRefusedBy-append seen refusal rest (settled, refused)).1, end_more seen kept rest end)
reads_told seen kept rest content (Refused refusal) (refused, inr none, end) =
    (subst (λ s. IsRefused s refusal) (sym (append-nil seen) ∙ ap (λ r. seen ++ r) (sym none)) refused, end_more seen kept rest end)
reads_told seen kept rest content End (nothing, none, same) = (ap₂ (λ s r. s ++ r) nothing none, ap₂ (λ s r. s ++ r) same none)
reads_told seen kept rest content ReadFault (nothing, end) = end_more seen kept rest end

pub reads_fed : (left left' : Option (List ℕ)) (kept kept' content : List ℕ) (answer : HttpFed) → FedOver left left' kept kept' content answer → ReadsFed (prepend_known kept left) (prepend_known kept' left') content answer
reads_fed None left' kept kept' content answer by = tt
reads_fed (Some xs) None kept kept' content answer by = absurd by.1
reads_fed (Some xs) (Some ys) kept kept' content answer (taken, is, by) =
    subst (λ stream. ReadsFed (Some stream) (Some (kept' ++ ys)) content answer) (append_assoc kept taken ys ∙ ap (λ l. kept ++ l) (sym is))
    (reads_told (kept ++ taken) kept' ys content answer (all_before answer (kept ++ taken) kept' content (taken ≡ xs) (ys ≡ []) none_left by))
  where
    none_left : taken ≡ xs → ys ≡ []
    none_left all = nil_from_length ys (omega (arith, ap length (all ∙ is), length-append taken ys))
