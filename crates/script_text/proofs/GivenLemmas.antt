-- What was given to a sink, over several calls.
use Rattle.std.proofs.Common.{ℕ, suc, ◌≡◌, ◌+◌, ◌<◌, add-one, length, drop, get_or, List, [], ◌∷◌, ◌++◌, Option, Result, Ok, Err, MatchResult, IfOk, OnErr, IsErr, refl, sym, ◌∙◌, ap, subst, append_assoc, append-nil}
use Rattle.std.proofs.Math.Seq.{drop-cons}
use Rattle.std.proofs.KnownBytes.{Appends-trans, Appends-nil}
use Rattle.std.specs.Io.KnownBytes.{Appends}
use Rattle.bosh_ports.specs.Sink.{AppendsFront}
use Rattle.script_text.specs.declared.report.ReportLine.{ReportLine}
use Rattle.script_text.specs.Report.{line_text, report_text}

-- a fact for each error, where the call failed
pub MatchResult-err : {T E : Type 0} (r : Result T E) (P : T → Type 0) (Q : E → Type 0) → IsErr r → ((e : E) → Q e) → MatchResult r P Q
MatchResult-err (Ok x) P Q err q = cc
MatchResult-err (Err e) P Q err q = q e

-- a front of a part is a front of the whole
pub AppendsFront-part : (old new : Option (List ℕ)) (part rest : List ℕ) → AppendsFront old new part → AppendsFront old new (part ++ rest)
AppendsFront-part old new part rest gave = (gave.0, gave.1 ++ rest, ap (λ p. p ++ rest) gave.2 ∙ append_assoc gave.0 gave.1 rest, gave.3)

-- a front of what follows a part that was given
pub AppendsFront-after : (old mid new : Option (List ℕ)) (part rest : List ℕ) → Appends old mid part → AppendsFront mid new rest → AppendsFront old new (part ++ rest)
AppendsFront-after old mid new part rest first gave =
    (part ++ gave.0, gave.1, ap (λ r. part ++ r) gave.2 ∙ sym (append_assoc part gave.0 gave.1), Appends-trans old mid new part gave.0 first gave.3)

-- nothing was given yet
pub AppendsFront-none : (old : Option (List ℕ)) (whole : List ℕ) → AppendsFront old old whole
AppendsFront-none old whole = ([], whole, refl, Appends-nil old)

-- the text of two reports one after the other
pub report_text-append : (lines others : List ReportLine) → report_text (lines ++ others) ≡ report_text lines ++ report_text others
report_text-append [] others = refl
report_text-append (line ∷ lines) others =
    ap (λ text. line_text line ++ 10 ∷ text) (report_text-append lines others)
    ∙ sym (append_assoc (line_text line) (10 ∷ report_text lines) (report_text others))

-- the lines of a report that are left follow those that were given
pub record HasReported (old new : Option (List ℕ)) (whole rest : List ReportLine) : Type 0 where
  pub written : List ℕ
  pub parts : report_text whole ≡ written ++ report_text rest
  pub gave : Appends old new written

pub nothing_reported : (old : Option (List ℕ)) (whole : List ReportLine) → HasReported old old whole whole
nothing_reported old whole = record { written = []; parts = refl; gave = Appends-nil old }

-- some more lines
pub more_reported : (old mid new : Option (List ℕ)) (whole lines rest : List ReportLine) → HasReported old mid whole (lines ++ rest) → Appends mid new (report_text lines) → HasReported old new whole rest
more_reported old mid new whole lines rest has more = record {
  written = has.written ++ report_text lines;
  parts = has.parts ∙ ap (λ text. has.written ++ text) (report_text-append lines rest) ∙ sym (append_assoc has.written (report_text lines) (report_text rest));
  gave = Appends-trans old mid new has.written (report_text lines) has.gave more;
}

-- a front of some more lines
pub front_reported : (old mid new : Option (List ℕ)) (whole lines rest : List ReportLine) → HasReported old mid whole (lines ++ rest) → AppendsFront mid new (report_text lines) → AppendsFront old new (report_text whole)
front_reported old mid new whole lines rest has gave =
    let whole_is = has.parts ∙ ap (λ text. has.written ++ text) (report_text-append lines rest) in
    subst (AppendsFront old new) (sym whole_is) (AppendsFront-after old mid new has.written (report_text lines ++ report_text rest) has.gave (AppendsFront-part mid new (report_text lines) (report_text rest) gave))

-- what was given so far is a front
pub so_far_reported : (old new : Option (List ℕ)) (whole rest : List ReportLine) → HasReported old new whole rest → AppendsFront old new (report_text whole)
so_far_reported old new whole rest has = (has.written, report_text rest, has.parts, has.gave)

-- nothing is left
pub all_reported : (old new : Option (List ℕ)) (whole : List ReportLine) → HasReported old new whole [] → Appends old new (report_text whole)
all_reported old new whole has = subst (Appends old new) (sym (has.parts ∙ append-nil has.written)) has.gave

-- the line at a place, and those after it
pub from_place : (lines : List ReportLine) (i : ℕ) (line : ReportLine) → i < length lines → line ≡ get_or lines i line → drop i lines ≡ (line ∷ []) ++ drop (i + 1) lines
from_place lines i line within is =
    drop-cons lines i line within
    ∙ ap (λ first. first ∷ drop (suc i) lines) (sym is)
    ∙ ap (λ next. line ∷ drop next lines) (sym (add-one i))

-- a report in two parts, both given
pub two_parts : (old mid new : Option (List ℕ)) (lines others : List ReportLine) → Appends old mid (report_text lines) → Appends mid new (report_text others) → Appends old new (report_text (lines ++ others))
two_parts old mid new lines others first then = subst (Appends old new) (sym (report_text-append lines others)) (Appends-trans old mid new (report_text lines) (report_text others) first then)

-- a front of the first part
pub first_part : (old new : Option (List ℕ)) (lines others : List ReportLine) → AppendsFront old new (report_text lines) → AppendsFront old new (report_text (lines ++ others))
first_part old new lines others gave = subst (AppendsFront old new) (sym (report_text-append lines others)) (AppendsFront-part old new (report_text lines) (report_text others) gave)

-- the first part, and a front of the second
pub second_part : (old mid new : Option (List ℕ)) (lines others : List ReportLine) → Appends old mid (report_text lines) → AppendsFront mid new (report_text others) → AppendsFront old new (report_text (lines ++ others))
second_part old mid new lines others first gave = subst (AppendsFront old new) (sym (report_text-append lines others)) (AppendsFront-after old mid new (report_text lines) (report_text others) first gave)

-- what follows a first part that was given
pub MatchResult-second : {T E : Type 0} (r : Result T E) (old mid new : Option (List ℕ)) (lines others : List ReportLine) → Appends old mid (report_text lines)
    → MatchResult r (λ _. Appends mid new (report_text others)) (λ _. AppendsFront mid new (report_text others))
    → MatchResult r (λ _. Appends old new (report_text (lines ++ others))) (λ _. AppendsFront old new (report_text (lines ++ others)))
MatchResult-second (Ok x) old mid new lines others first gave = two_parts old mid new lines others first gave
MatchResult-second (Err e) old mid new lines others first gave = second_part old mid new lines others first gave

-- what follows from a front being given, where the call failed
pub OnErr-front : {T E : Type 0} (r : Result T E) (P Q X : Type 0) → MatchResult r (λ _. P) (λ _. Q) → (Q → X) → OnErr r X
OnErr-front (Ok x) P Q X gave then = tt
OnErr-front (Err e) P Q X gave then = then gave

-- what follows from the whole being given, where the call's answer is known
pub IfOk-whole : {T E : Type 0} (r : Result T E) (P Q : Type 0) (known : T) (X : T → Type 0) → IfOk r (λ x. x ≡ known) → MatchResult r (λ _. P) (λ _. Q) → (P → X known) → IfOk r X
IfOk-whole (Ok x) P Q known X is gave then = subst X (sym is) (then gave)
IfOk-whole (Err e) P Q known X is gave then = tt

-- a fact, where the call failed
pub OnErr-any : {T E : Type 0} (r : Result T E) (X : Type 0) → X → OnErr r X
OnErr-any (Ok x) X fact = tt
OnErr-any (Err e) X fact = fact
