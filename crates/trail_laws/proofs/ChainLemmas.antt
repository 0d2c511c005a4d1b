-- What is known of the directory, line by line.
use Rattle.std.proofs.Common.{◌≡◌, ◌⊎◌, ◌≤◌, ℕ, zero, suc, Bool, true, false, cond, List, [], ◌∷◌, ◌++◌, length, filter, map, Option, Some, None, refl, sym, ◌∙◌, ap, subst, inl, inr, append-nil, append_assoc, true≢false, arith}
use Rattle.std.specs.List.{cons_option, filter_map}
use Rattle.parked_gate.specs.Histories.{StartsWith}
use Rattle.parked_gate.specs.Passes.{GateId, Known}
use Rattle.session_table.specs.declared.entry.Entry.{Entry}
use Rattle.session_table.specs.declared.opening.Limits.{Limits}
use Rattle.session_table.specs.History.{opening_in}
use Rattle.serve_loop.specs.declared.trail.Traced.{Traced}
use Rattle.trail_laws.specs.Asking.{AsksForEach, IsLeftOf, IsShown, of_directory}
use Rattle.trail_laws.specs.Seeing.{HasOpening, IsSeenFor, IsTold, SeesEach}
use Rattle.trail_laws.specs.Told.{Has, is_of_directory, opened_in, seen_for}
use Rattle.trail_laws.proofs.ListLemmas.{cancel, few_behind, has_first, has_last, has_split, left_behind, none_left, one_behind, one_left, starts_itself, starts_on}

-- more was seen, made and learnt
pub record Grew (old new : Known Entry) : Type 0 where
  pub begins : StartsWith new.seen old.seen
  pub more : List Entry
  pub mine : new.mine ≡ old.mine ++ more
  pub news : List ℕ
  pub learnt : new.learnt ≡ old.learnt ++ news

pub grew_none : (k : Known Entry) → Grew k k
grew_none k = record { begins = starts_itself k.seen; more = []; mine = sym (append-nil k.mine); news = []; learnt = sym (append-nil k.learnt) }

pub on_and_on : {A : Type 0} (xs ys zs more rest : List A) → ys ≡ xs ++ more → zs ≡ ys ++ rest → zs ≡ xs ++ (more ++ rest)
on_and_on xs ys zs more rest first then_ = then_ ∙ (ap (λ l. l ++ rest) first ∙ append_assoc xs more rest)

abbrev pub grew_on : (a b c : Known Entry) → Grew a b → Grew b c → Grew a c
grew_on a b c g h = record {
  begins = starts_on a.seen b.seen c.seen g.begins h.begins;
  more = g.more ++ h.more;
  mine = on_and_on a.mine b.mine c.mine g.more h.more g.mine h.mine;
  news = g.news ++ h.news;
  learnt = on_and_on a.learnt b.learnt c.learnt g.news h.news g.learnt h.learnt;
}

-- a line that the directory tells says this of what is known then, which was learnt last
pub record IsAsked (limits : Limits) (t : Traced) (log : List Entry) (new : Known Entry) (news : List ℕ) : Type 0 where
  pub now : log ≡ new.seen
  pub told : IsTold limits t.line log
  pub earlier : List ℕ
  pub last : news ≡ earlier ++ length log ∷ []

-- what one line adds
pub record Steps (limits : Limits) (old : Known Entry) (t : Traced) (new : Known Entry) : Type 0 where
  pub grew : Grew old new
  pub shown : IsShown t
  pub asked : (log : List Entry) → seen_for t ≡ Some log → IsAsked limits t log new grew.news
  pub opened : (session : List ℕ × GateId) → opened_in t ≡ Some session → HasOpening new.seen new.mine session
  pub entered : (session : List ℕ × GateId) → opened_in t ≡ Some session → (e : Entry) × Has grew.more e × (opening_in e ≡ Some session)

pub steps_from : (limits : Limits) (a b c : Known Entry) (t : Traced) → Grew a b → Steps limits b t c → Steps limits a t c
steps_from limits a b c t g s = record { grew = grew_on a b c g s.grew; shown = s.shown; asked = by; opened = s.opened; entered = here }
  where
    here : (session : List ℕ × GateId) → opened_in t ≡ Some session → (e : Entry) × Has (g.more ++ s.grew.more) e × (opening_in e ≡ Some session)
    here session is =
        let one : (e : Entry) × Has s.grew.more e × (opening_in e ≡ Some session) = s.entered session is in
        (one.0, has_last g.more s.grew.more one.0 one.1, one.2)

    by : (log : List Entry) → seen_for t ≡ Some log → IsAsked limits t log c (g.news ++ s.grew.news)
    by log is =
        let asked : IsAsked limits t log c s.grew.news = s.asked log is in
        record {
          now = asked.now;
          told = asked.told;
          earlier = g.news ++ asked.earlier;
          last = ap (λ l. g.news ++ l) asked.last ∙ sym (append_assoc g.news asked.earlier (length log ∷ []));
        }

-- lines, one after the other
abbrev pub Chain : Limits → Known Entry → List Traced → Known Entry → Type 0
Chain limits k [] last = Grew k last
Chain limits k (t ∷ ts) last = (next : Known Entry) × Steps limits k t next × Chain limits next ts last

pub chain_grew : (limits : Limits) (k last : Known Entry) (ts : List Traced) → Chain limits k ts last → Grew k last
chain_grew limits k last [] grew = grew
chain_grew limits k last (t ∷ ts) (next, s, rest) = grew_on k next last s.grew (chain_grew limits next last ts rest)

pub chain_from : (limits : Limits) (a k last : Known Entry) (ts : List Traced) → Grew a k → Chain limits k ts last → Chain limits a ts last
chain_from limits a k last [] g grew = grew_on a k last g grew
chain_from limits a k last (t ∷ ts) g (next, s, rest) = (next, steps_from limits a k next t g s, rest)

pub chain_to : (limits : Limits) (k mid last : Known Entry) (ts : List Traced) → Chain limits k ts mid → Grew mid last → Chain limits k ts last
chain_to limits k mid last [] grew g = grew_on k mid last grew g
chain_to limits k mid last (t ∷ ts) (next, s, rest) g = (next, s, chain_to limits next mid last ts rest g)

pub chain_more : (limits : Limits) (k mid last : Known Entry) (ts : List Traced) (t : Traced) → Chain limits k ts mid → Steps limits mid t last → Chain limits k (ts ++ t ∷ []) last
chain_more limits k mid last [] t grew s = (last, steps_from limits k mid last t grew s, grew_none last)
chain_more limits k mid last (x ∷ xs) t (next, x_steps, rest) s = (next, x_steps, chain_more limits next mid last xs t rest s)

-- ---- how often the directory was asked

none_some : {A B : Type 0} (o : Option A) (a : A) → o ≡ None → o ≡ Some a → B
none_some o a none is = absurd (cc)

pub chain_asks : (limits : Limits) (k last : Known Entry) (ts : List Traced) → Chain limits k ts last → AsksForEach ts k last
chain_asks limits k last [] grew = record { news = grew.news; learnt = grew.learnt; shown = tt; lengths = none_left grew.news; enough = omega arith }
chain_asks limits k last (t ∷ ts) (next, s, rest) =
    let r : AsksForEach ts next last = chain_asks limits next last ts rest in
    record {
      news = s.grew.news ++ r.news;
      learnt = on_and_on k.learnt next.learnt last.learnt s.grew.news r.news s.grew.learnt r.learnt;
      shown = (s.shown, r.shown);
      lengths = lengths (seen_for t) s.grew.news s.asked r.news (filter_map seen_for ts) r.lengths;
      enough = enough (is_of_directory t.line t.evidence) s.grew.news s.shown s.asked r.news (of_directory ts) r.enough;
    }
  where
    lengths : (o : Option (List Entry)) (news : List ℕ) → ((log : List Entry) → o ≡ Some log → IsAsked limits t log next news) → (later : List ℕ) (logs : List (List Entry))
        → IsLeftOf (map length logs) later → IsLeftOf (map length (cons_option o logs)) (news ++ later)
    lengths None news asked later logs are = left_behind news (map length logs) later are
    lengths (Some log) news asked later logs are =
        let a : IsAsked limits t log next news = asked log refl in
        subst (λ l. IsLeftOf (length log ∷ map length logs) (l ++ later)) (sym a.last) (one_left a.earlier (length log) (map length logs) later are)

    enough : (b : Bool) (news : List ℕ) → (b ≡ true → (log : List Entry) × (seen_for t ≡ Some log)) → ((log : List Entry) → seen_for t ≡ Some log → IsAsked limits t log next news)
        → (later : List ℕ) (lines : List Traced) → length lines ≤ length later → length (cond b (t ∷ lines) lines) ≤ length (news ++ later)
    enough false news shown asked later lines few = few_behind (length lines) news later few
    enough true news shown asked later lines few =
        let log : (log : List Entry) × (seen_for t ≡ Some log) = shown refl in
        let a : IsAsked limits t log.0 next news = asked log.0 log.1 in
        subst (λ l. suc (length lines) ≤ length (l ++ later)) (sym a.last) (one_behind (length lines) a.earlier later (length log.0) few)

-- ---- what was seen of it

pub opening_on : (log log' mine mine' more : List Entry) (session : List ℕ × GateId) → HasOpening log mine session → StartsWith log' log → mine' ≡ mine ++ more → HasOpening log' mine' session
opening_on log log' mine mine' more session has (rest, is) own = record {
  entry = has.entry;
  there = subst (λ l. Has l has.entry) (sym is) (has_first log rest has.entry has.there);
  own = subst (λ l. Has l has.entry) (sym own) (has_first mine more has.entry has.own);
  tells = has.tells;
}

pub chain_opens : (limits : Limits) (k last : Known Entry) (ts : List Traced) → Chain limits k ts last → (other : Traced) (session : List ℕ × GateId) → Has ts other
    → opened_in other ≡ Some session → HasOpening last.seen last.mine session
chain_opens limits k last [] grew other session there is = absurd there
chain_opens limits k last (t ∷ ts) (next, s, rest) other session (inl here) is =
    let later : Grew next last = chain_grew limits next last ts rest in
    opening_on next.seen last.seen next.mine last.mine later.more session (s.opened session (ap opened_in here ∙ is)) later.begins later.mine
chain_opens limits k last (t ∷ ts) (next, s, rest) other session (inr there) is = chain_opens limits next last ts rest other session there is

-- what was entered for a line that opened a session is among what was entered in all
pub chain_enters : (limits : Limits) (k last : Known Entry) (ts : List Traced) → Chain limits k ts last → (t : Traced) (session : List ℕ × GateId) → Has ts t → opened_in t ≡ Some session
    → (more : List Entry) → last.mine ≡ k.mine ++ more → (e : Entry) × Has more e × (opening_in e ≡ Some session)
chain_enters limits k last [] grew t session there is more are = absurd there
chain_enters limits k last (x ∷ xs) (next, s, rest) t session there is more are =
    by there (chain_grew limits next last xs rest) (chain_enters limits next last xs rest t session)
  where
    behind : (later : List Entry) → last.mine ≡ next.mine ++ later → s.grew.more ++ later ≡ more
    behind later own = cancel k.mine (s.grew.more ++ later) more (sym (on_and_on k.mine next.mine last.mine s.grew.more later s.grew.mine own) ∙ are)

    by : (x ≡ t) ⊎ Has xs t → Grew next last → (Has xs t → opened_in t ≡ Some session → (later : List Entry) → last.mine ≡ next.mine ++ later → (e : Entry) × Has later e × (opening_in e ≡ Some session))
        → (e : Entry) × Has more e × (opening_in e ≡ Some session)
    by (inl here) grew further =
        let one : (e : Entry) × Has s.grew.more e × (opening_in e ≡ Some session) = s.entered session (ap opened_in here ∙ is) in
        (one.0, subst (λ l. Has l one.0) (behind grew.more grew.mine) (has_first s.grew.more grew.more one.0 one.1), one.2)
    by (inr later) grew further =
        let one : (e : Entry) × Has grew.more e × (opening_in e ≡ Some session) = further later is grew.more grew.mine in
        (one.0, subst (λ l. Has l one.0) (behind grew.more grew.mine) (has_last s.grew.more grew.more one.0 one.1), one.2)

-- a chain in two, with a line between
record Split (limits : Limits) (k : Known Entry) (before : List Traced) (t : Traced) (later : List Traced) (last : Known Entry) : Type 0 where
  a : Known Entry
  b : Known Entry
  first : Chain limits k before a
  step : Steps limits a t b
  rest : Chain limits b later last

chain_split : (limits : Limits) (k last : Known Entry) (before later : List Traced) (t : Traced) → Chain limits k (before ++ t ∷ later) last → Split limits k before t later last
chain_split limits k last [] later t (next, s, rest) = record { a = k; b = next; first = grew_none k; step = s; rest = rest }
chain_split limits k last (x ∷ xs) later t (next, s, rest) =
    let split : Split limits next xs t later last = chain_split limits next last xs later t rest in
    record { a = split.a; b = split.b; first = (next, s, split.first); step = split.step; rest = split.rest }

pub chain_sees : (limits : Limits) (k last : Known Entry) (ts : List Traced) → Chain limits k ts last → SeesEach limits ts last
chain_sees limits k last ts chain before later t log are is =
    by (chain_split limits k last before later t (subst (λ l. Chain limits k l last) are chain))
  where
    by : Split limits k before t later last → IsSeenFor limits before t log last
    by split =
        let asked : IsAsked limits t log split.b split.step.grew.news = split.step.asked log is in
        let after : Grew split.b last = chain_grew limits split.b last later split.rest in
        let whole : Grew split.a last = grew_on split.a split.b last split.step.grew after in
        record {
          begins = subst (λ l. StartsWith last.seen l) (sym asked.now) after.begins;
          told = asked.told;
          openings = λ other session there opened. opening_on split.a.seen log split.a.mine last.mine whole.more session
              (chain_opens limits k split.a before split.first other session there opened)
              (subst (λ l. StartsWith l split.a.seen) (sym asked.now) split.step.grew.begins) whole.mine;
        }
