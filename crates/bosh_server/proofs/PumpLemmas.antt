-- The calls of a server's pump, and its end.
use Rattle.std.proofs.Common.{◌≡◌, ◌∙◌, ◌++◌, ◌∷◌, ℕ, List, [], All, Option, Result, length, map, append_assoc, append-nil, refl, sym, ap, subst}
use Rattle.std.specs.Prelude.{⊤}
use Rattle.std.proofs.Math.Logic.{∥∥₁_elim, ∥∥₁_map, ∥∥₁_prop}
use Rattle.std.specs.BTreeMap.{IsEmpty}
use Rattle.std.specs.declared.alloc.AllocError.{AllocError}
use Rattle.parked_gate.specs.Histories.{StartsWith}
use Rattle.parked_gate.specs.Passes.{Grows, Known, Looks, known}
use Rattle.session_pump.specs.Dues.{AskDues, Dues, asked_none}
use Rattle.session_pump.specs.Pumping.{AsksDirectory, HostFacts, Lines, Pumping, facts_of, pumping_of}
use Rattle.session_pump.specs.Rows.{Row, asked_dues, no_call, one_more, shut_down, turned}
use Rattle.session_pump.specs.Turns.{ShutsDown, shuts_all, shuts_nobody}
use Rattle.session_pump.specs.declared.pump.Pump.{Pump}
use Rattle.session_table.specs.declared.entry.Entry.{Entry}
use Rattle.session_table.specs.History.{IsLegal}
use Rattle.session_table.specs.Purses.{Sessions}
use Rattle.xmpp_backend.specs.Counts.{Counts}
use Rattle.xmpp_backend.specs.Told.{Told}
use Rattle.bosh_server.specs.declared.fates.Fate.{Fate}
use Rattle.bosh_server.specs.Behind.{EndsTogether, HasLearnt, HasRun, IsPumped, ShutsAndTurns}
use Rattle.bosh_server.specs.Fates.{IsOfHistory}
use Rattle.bosh_server.proofs.FateLemmas.{begun_by}

-- rows one after the other
pub rows : {a b c : Pumping} → Row a b → Row b c → Row a c
rows row no_call = row
rows row (one_more later call) = one_more (rows row later) call

abbrev parts : Known Entry → Sessions → Lines → List HostFacts → Dues → Pumping
parts directory sessions lines hosts dues = record { directory = directory; sessions = sessions; lines = lines; hosts = hosts; dues = dues }

-- equal parts make the same
same_parts : {d e : Known Entry} {s t : Sessions} {l m : Lines} {h k : List HostFacts} {n o : Dues} → e ≡ d → t ≡ s → m ≡ l → k ≡ h → o ≡ n
    → parts d s l h n ≡ parts e t m k o
same_parts {d} {e} {s} {t} {l} {m} {h} {k} {n} {o} one two three four five =
    ap (λ x. parts x s l h n) (sym one) ∙ ap (λ x. parts e x l h n) (sym two) ∙ ap (λ x. parts e t x h n) (sym three) ∙ ap (λ x. parts e t m x n) (sym four)
    ∙ ap (λ x. parts e t m k x) (sym five)

module _ {E : Type 0} (told : E → Option Told) (counts : E → Counts) where
  -- sessions were asked when they are due
  pub asked_row : (old new : Pump E) (asked : List ℕ) → new.purse.directory ≡ old.purse.directory → new.lines ≡ old.lines → new.hosts ≡ old.hosts
      → AskDues old.purse.sessions asked new.purse.sessions → Row (pumping_of told counts old) (pumping_of told counts new)
  asked_row old new asked directory lines hosts asks =
      subst (Row (pumping_of told counts old))
      (same_parts (ap (λ p. known p) directory) refl lines (ap (λ h. map (facts_of told counts) h.stands.items) hosts) refl)
      (one_more no_call (asked_dues new.purse.sessions new.dues asks))

  -- some are noted no longer as due
  pub taken_row : (old new : Pump E) → new.purse ≡ old.purse → new.lines ≡ old.lines → new.hosts ≡ old.hosts
      → Row (pumping_of told counts old) (pumping_of told counts new)
  taken_row old new purse lines hosts =
      asked_row old new [] (ap (λ p. p.directory) purse) lines hosts (subst (AskDues old.purse.sessions []) (ap (λ p. p.sessions) (sym purse)) asked_none)

  -- a pump that began so and made these calls
  pub has_run : (hosts : List HostFacts) (old new : Pump E) → ∥ map (facts_of told counts) old.hosts.stands.items ≡ hosts ∥₁ → IsEmpty old.purse.sessions → IsEmpty old.lines
      → old.dues ≡ [] → ∥ (known old.purse.directory).mine ≡ [] ∥₁ → Row (pumping_of told counts old) (pumping_of told counts new)
      → ∥ HasRun hosts (pumping_of told counts new) ∥₁
  has_run hosts old new stands sessions lines dues entries row =
      ∥∥₁_elim stands ∥∥₁_prop
      (λ s. ∥∥₁_map entries
      (λ e. record {
        start = pumping_of told counts old;
        begins = record { hosts_so = s; no_session = sessions; no_line = lines; no_due = dues; no_entry = e };
        row = row;
      }))

-- what is looked at after more was seen is looked at after less
looks_before : {Says : List Entry → Type 0} {o k n : Known Entry} → Grows o k → Looks Says k n → Looks Says o n
looks_before {Says} {o} {k} {n} more looks = record {
  begins = begun_by o.seen k.seen n.seen more.begins looks.begins;
  says = looks.says;
  mine = looks.mine ∙ more.mine;
  earlier = more.earlier ++ looks.earlier;
  learnt = looks.learnt ∙ ap (λ l. (l ++ looks.earlier) ++ length n.seen ∷ []) more.learnt ∙ ap (λ l. l ++ length n.seen ∷ []) (append_assoc o.learnt more.earlier looks.earlier);
}

asks_before : {Says : List Entry → Type 0} (a b : Pumping) (k : Known Entry) → Grows a.directory k → AsksDirectory (Looks Says) (record a { directory = k }) b
    → AsksDirectory (Looks Says) a b
asks_before a b k more asks = record { learns = looks_before more asks.learns; sessions = asks.sessions; same = asks.same }

-- an end that came when more was seen
shuts_before : {moment : Option ℕ} (a c : Pumping) {result : Result ⊤ AllocError} (k : Known Entry) → Grows a.directory k
    → ShutsDown moment (record a { directory = k }) c result → ShutsDown moment a c result
shuts_before a c k more (shuts_nobody error asks) = shuts_nobody error (asks_before a _ k more asks)
shuts_before a c k more (shuts_all live asks each) = shuts_all live (asks_before a _ k more asks) each

-- a pump that was told of more, and then made its last calls
ends_so : (hosts : List HostFacts) (now end : Pumping) → HasLearnt hosts now → ShutsAndTurns now end → IsPumped hosts now.directory.seen end
ends_so hosts now end is calls =
    let k = now.directory in
    let before = is.before in
    let last = subst (λ p. ShutsAndTurns p end) is.same calls in
    record {
      runs = record {
        start = is.runs.start;
        begins = is.runs.begins;
        row = one_more (one_more is.runs.row (shut_down (shuts_before before last.told k is.grows last.shuts))) (turned last.turns);
      };
      last = before;
      before = is.runs;
      ends = record { learnt = k; grows = is.grows; knows = refl; last_calls = last };
    }

pub together : {L : Type 0} (hosts : List HostFacts) (roll : List (List (Fate L))) (now end : Pumping) → ∥ HasLearnt hosts now ∥₁ → ShutsAndTurns now end
    → ∥ IsLegal now.directory.seen ∥₁ → ∥ All (λ fates. All (IsOfHistory now.directory.seen) fates) roll ∥₁ → ∥ EndsTogether hosts roll end ∥₁
together hosts roll now end learnt calls legal of_one =
    ∥∥₁_elim learnt ∥∥₁_prop
    (λ is. ∥∥₁_elim legal ∥∥₁_prop
    (λ l. ∥∥₁_map of_one
    (λ o. record { history = now.directory.seen; legal = l; of_one = o; pumped = ends_so hosts now end is calls })))

-- more was seen of one thing alone
pub more_seen : (old new : Known Entry) (seen : List Entry) → new ≡ record old { seen = seen } → StartsWith new.seen old.seen → Grows old new
more_seen old new seen is begins = record {
  number = ap (λ k. k.number) is;
  begins = begins;
  mine = ap (λ k. k.mine) is;
  earlier = [];
  learnt = ap (λ k. k.learnt) is ∙ sym (append-nil old.learnt);
}
