-- The tickets that are out, at each step of a session.
use Rattle.std.proofs.Common.{◌≡◌, ◌≢◌, ℕ, zero, suc, ◌+◌, ◌==◌, Bool, true, false, not, ◌&&◌, cond, inl, inr, List, [], ◌∷◌, ◌++◌, map, Option, Some, None, is_some, length, slice_get, slice_set, refl, sym, ◌∙◌, ap, subst, if◌then◌else◌, arith, length-append, length-set}
use Rattle.std.specs.Option.{option_map, option_or}
use Rattle.std.proofs.lemmas.Bool.{cases_eq}
use Rattle.std.proofs.lemmas.Bool.Decides.{nat_tests}
use Rattle.std.proofs.lemmas.List.{length-map}
use Rattle.std.proofs.lemmas.List.Folds.{find-append}
use Rattle.std.proofs.lemmas.Option.{slice_get-map, slice_get_past}
use Rattle.session_core.specs.declared.replies.Collected.{Collected}
use Rattle.session_core.specs.declared.tickets.OpenTicket.{OpenTicket}
use Rattle.session_core.specs.Endings.{error_text}
use Rattle.session_core.specs.Gap.{strike_ticket}
use Rattle.session_core.specs.Machine as machine
use Rattle.session_core.specs.State.{PlainSession, Issued, TicketState, Waits, Replaced, Struck, UsedUp}
use Rattle.session_core.specs.Tickets.{Book, collected, give_answer, give_word, given, is_for, replace, strike, ticket_at, told_answer, told_of, uses_up, without}
use Rattle.session_core.specs.TicketsOut.{AreOut, issued_at, out_in, out_of}

equal_test : (m n : ℕ) → m ≡ n → (m == n) ≡ true
equal_test m n same = grind (arith, nat_tests)

other_test : (m n : ℕ) → m ≢ n → (m == n) ≡ false
other_test m n other = grind (arith, nat_tests)

or_none : {X : Type 0} (o : Option X) → option_or o None ≡ o
or_none None = refl
or_none (Some x) = refl

-- Lists by index.

module _ {X : Type 0} where
  get_push_last : (xs : List X) (x : X) → slice_get (xs ++ x ∷ []) (length xs) ≡ Some x
  get_push_last [] x = refl
  get_push_last (y ∷ xs) x = get_push_last xs x

  get_push_other : (xs : List X) (x : X) (k : ℕ) → k ≢ length xs → slice_get (xs ++ x ∷ []) k ≡ slice_get xs k
  get_push_other [] x zero other = absurd (other refl)
  get_push_other [] x (suc k) other = refl
  get_push_other (y ∷ xs) x zero other = refl
  get_push_other (y ∷ xs) x (suc k) other = get_push_other xs x k (λ same. other (ap suc same))

  get_set_same : (xs : List X) (k : ℕ) (was new : X) → slice_get xs k ≡ Some was → slice_get (slice_set xs k new) k ≡ Some new
  get_set_same [] k was new is = absurd (cc)
  get_set_same (x ∷ xs) zero was new is = refl
  get_set_same (x ∷ xs) (suc k) was new is = get_set_same xs k was new is

  get_set_other : (xs : List X) (k j : ℕ) (new : X) → j ≢ k → slice_get (slice_set xs k new) j ≡ slice_get xs j
  get_set_other [] k j new other = refl
  get_set_other (x ∷ xs) zero zero new other = absurd (other refl)
  get_set_other (x ∷ xs) zero (suc j) new other = refl
  get_set_other (x ∷ xs) (suc k) zero new other = refl
  get_set_other (x ∷ xs) (suc k) (suc j) new other = get_set_other xs k j new (λ same. other (ap suc same))

pub issued_push_last : (issued : List Issued) (ticket : Issued) (number : ℕ) → number ≡ length issued + 1 → issued_at (issued ++ ticket ∷ []) number ≡ Some ticket
issued_push_last issued ticket zero last = absurd (omega arith)
issued_push_last issued ticket (suc k) last =
    let here : k ≡ length issued = omega arith in
    ap (slice_get (issued ++ ticket ∷ [])) here ∙ get_push_last issued ticket

pub issued_push_other : (issued : List Issued) (ticket : Issued) (number : ℕ) → number ≢ length issued + 1 → issued_at (issued ++ ticket ∷ []) number ≡ issued_at issued number
issued_push_other issued ticket zero other = refl
issued_push_other issued ticket (suc k) other = get_push_other issued ticket k (λ same. other (omega arith))

issued_set_other : (issued : List Issued) (index number : ℕ) (ticket : Issued) → number ≢ suc index → issued_at (slice_set issued index ticket) number ≡ issued_at issued number
issued_set_other issued index zero ticket other = refl
issued_set_other issued index (suc k) ticket other = get_set_other issued index k ticket (λ same. other (ap suc same))

pub issued_past : (issued : List Issued) (number : ℕ) → number ≡ length issued + 1 → issued_at issued number ≡ None
issued_past issued zero last = refl
issued_past issued (suc k) last = slice_get_past issued k (omega arith)

issued_map : (f : Issued → Issued) (issued : List Issued) (number : ℕ) → issued_at (map f issued) number ≡ option_map f (issued_at issued number)
issued_map f issued zero = refl
issued_map f issued (suc k) = slice_get-map f issued k

-- Tickets by number.

map_cond : (f : OpenTicket → OpenTicket) (b : Bool) (ticket : OpenTicket) (rest mapped : Option OpenTicket) → mapped ≡ option_map f rest → cond b (Some (f ticket)) mapped ≡ option_map f (cond b (Some ticket) rest)
map_cond f true ticket rest mapped is = refl
map_cond f false ticket rest mapped is = is

at_map : (f : OpenTicket → OpenTicket) → ((ticket : OpenTicket) → (f ticket).number ≡ ticket.number) → (tickets : List OpenTicket) (number : ℕ) → ticket_at (map f tickets) number ≡ option_map f (ticket_at tickets number)
at_map f keeps [] number = refl
at_map f keeps (ticket ∷ tickets) number =
    ap (λ n. cond (n == number) (Some (f ticket)) (ticket_at (map f tickets) number)) (keeps ticket)
    ∙ map_cond f (ticket.number == number) ticket (ticket_at tickets number) (ticket_at (map f tickets) number) (at_map f keeps tickets number)

left_out : (number : ℕ) (ticket : OpenTicket) (rest : List OpenTicket) → ticket.number ≡ number → cond (not (ticket.number == number)) (ticket ∷ rest) rest ≡ rest
left_out number ticket rest same = ap (λ b. cond (not b) (ticket ∷ rest) rest) (equal_test ticket.number number same)

left_in : (number : ℕ) (ticket : OpenTicket) (rest : List OpenTicket) → ticket.number ≢ number → cond (not (ticket.number == number)) (ticket ∷ rest) rest ≡ ticket ∷ rest
left_in number ticket rest other = ap (λ b. cond (not b) (ticket ∷ rest) rest) (other_test ticket.number number other)

at_skip : (number : ℕ) (ticket : OpenTicket) (rest : List OpenTicket) → ticket.number ≢ number → ticket_at (ticket ∷ rest) number ≡ ticket_at rest number
at_skip number ticket rest other = ap (λ b. cond b (Some ticket) (ticket_at rest number)) (other_test ticket.number number other)

pub at_without_same : (number : ℕ) (tickets : List OpenTicket) → ticket_at (without number tickets) number ≡ None
at_without_same number [] = refl
at_without_same number (ticket ∷ tickets) = elim (cases_eq ticket.number number) [
  | inl same ↦
      ap (λ ts. ticket_at ts number) (left_out number ticket (without number tickets) same) ∙ at_without_same number tickets
  | inr other ↦
      ap (λ ts. ticket_at ts number) (left_in number ticket (without number tickets) other)
      ∙ at_skip number ticket (without number tickets) other ∙ at_without_same number tickets
]

pub at_without_other : (number n : ℕ) (tickets : List OpenTicket) → n ≢ number → ticket_at (without number tickets) n ≡ ticket_at tickets n
at_without_other number n [] apart = refl
at_without_other number n (ticket ∷ tickets) apart = elim (cases_eq ticket.number number) [
  | inl same ↦
      ap (λ ts. ticket_at ts n) (left_out number ticket (without number tickets) same)
      ∙ at_without_other number n tickets apart ∙ sym (at_skip n ticket tickets (λ here. apart (sym here ∙ same)))
  | inr other ↦
      ap (λ ts. ticket_at ts n) (left_in number ticket (without number tickets) other)
      ∙ ap (cond (ticket.number == n) (Some ticket)) (at_without_other number n tickets apart)
]

-- The steps.

none_at : (words : ℕ → Option (List ℕ)) (number : ℕ) → None ≡ out_of words number (issued_at [] number)
none_at words zero = refl
none_at words (suc k) = refl

pub none_out : (words : ℕ → Option (List ℕ)) → AreOut (record { handed_out = 0; out = [] }) [] words
none_out words = record { handed_out_is = refl; each = none_at words }

-- a ticket as it is out, with its answer
abbrev out_ticket : ℕ → ℕ → Bool → Option (List ℕ) → Option OpenTicket
out_ticket number rid replaced answer = Some (record { number = number; rid = rid; replaced = replaced; struck = false; answer = answer })

module _ (words : ℕ → Option (List ℕ)) where
  -- a ticket is handed out for a request that has no words yet
  pub given_out : (book : Book) (issued : List Issued) (rid : ℕ) → words rid ≡ None → AreOut book issued words → AreOut (given book rid) (issued ++ record { rid = rid; state = Waits } ∷ []) words
  given_out book issued rid none out = record {
    handed_out_is = omega (arith, out.handed_out_is, length-append issued (record { rid = rid; state = Waits } ∷ []));
    each = λ number. find-append (λ ticket. ticket.number == number) book.out (record { number = book.handed_out + 1; rid = rid; replaced = false; struck = false; answer = None } ∷ [])
        ∙ elim (cases_eq (book.handed_out + 1) number) [
          | inl same ↦
              let last : number ≡ length issued + 1 = omega (arith, out.handed_out_is) in
              let before : ticket_at book.out number ≡ None = out.each number ∙ ap (out_of words number) (issued_past issued number last) in
              ap (λ o. option_or o (cond (book.handed_out + 1 == number) (out_ticket (book.handed_out + 1) rid false None) None)) before
              ∙ ap (λ b. cond b (out_ticket (book.handed_out + 1) rid false None) None) (equal_test (book.handed_out + 1) number same)
              ∙ ap (λ n. out_ticket n rid false None) same
              ∙ ap (out_ticket number rid false) (sym none)
              ∙ ap (out_of words number) (sym (issued_push_last issued (record { rid = rid; state = Waits }) number last))
          | inr other ↦
              let apart : number ≢ length issued + 1 = λ here. other (omega (arith, out.handed_out_is)) in
              ap (λ b. option_or (ticket_at book.out number) (cond b (out_ticket (book.handed_out + 1) rid false None) None)) (other_test (book.handed_out + 1) number other)
              ∙ or_none (ticket_at book.out number) ∙ out.each number
              ∙ ap (out_of words number) (sym (issued_push_other issued (record { rid = rid; state = Waits }) number apart))
        ];
  }

  replaced_waits : (number r : ℕ) (b : Bool) → Some (cond (b && not false) (record { number = number; rid = r; replaced = true; struck = false; answer = words r }) (record { number = number; rid = r; replaced = false; struck = false; answer = words r })) ≡ out_of words number (Some (cond b (record { rid = r; state = Replaced }) (record { rid = r; state = Waits })))
  replaced_waits number r true = refl
  replaced_waits number r false = refl

  replaced_again : (number r : ℕ) (b : Bool) → Some (cond (b && not false) (record { number = number; rid = r; replaced = true; struck = false; answer = words r }) (record { number = number; rid = r; replaced = true; struck = false; answer = words r })) ≡ out_of words number (Some (cond b (record { rid = r; state = Replaced }) (record { rid = r; state = Replaced })))
  replaced_again number r true = refl
  replaced_again number r false = refl

  -- one whose copy was struck keeps its error
  replaced_never : (b : Bool) (ticket other : OpenTicket) → cond (b && not true) other ticket ≡ ticket
  replaced_never true ticket other = refl
  replaced_never false ticket other = refl

  same_state : (number r : ℕ) (state : TicketState) (b : Bool) → out_of words number (Some (cond b (record { rid = r; state = state }) (record { rid = r; state = state }))) ≡ out_in words number r state
  same_state number r state true = refl
  same_state number r state false = refl

  replaced_in : (rid number r : ℕ) (state : TicketState) → option_map (replace rid) (out_in words number r state) ≡ out_of words number (Some (machine.replace rid (record { rid = r; state = state })))
  replaced_in rid number r Waits = replaced_waits number r (r == rid)
  replaced_in rid number r Replaced = replaced_again number r (r == rid)
  replaced_in rid number r Struck =
      ap Some (replaced_never (r == rid) (record { number = number; rid = r; replaced = false; struck = true; answer = Some error_text }) (record { number = number; rid = r; replaced = true; struck = true; answer = Some error_text }))
      ∙ sym (same_state number r Struck (r == rid))
  replaced_in rid number r UsedUp = sym (same_state number r UsedUp (r == rid))

  replaced_at : (rid number : ℕ) (o : Option Issued) → option_map (replace rid) (out_of words number o) ≡ out_of words number (option_map (machine.replace rid) o)
  replaced_at rid number None = refl
  replaced_at rid number (Some ticket) = replaced_in rid number ticket.rid ticket.state

  keeps_replaced : (rid : ℕ) (b : Bool) (ticket : OpenTicket) → (cond b (record ticket { replaced = true }) ticket).number ≡ ticket.number
  keeps_replaced rid true ticket = refl
  keeps_replaced rid false ticket = refl

  -- a later copy of a request takes the place of those that wait
  pub replaced_out : (book : Book) (issued : List Issued) (rid : ℕ) → AreOut book issued words → AreOut (record book { out = map (replace rid) book.out }) (map (machine.replace rid) issued) words
  replaced_out book issued rid out = record {
    handed_out_is = out.handed_out_is ∙ sym (length-map issued (machine.replace rid));
    each = λ number.
        at_map (replace rid) (λ ticket. keeps_replaced rid (is_for rid ticket) ticket) book.out number
        ∙ ap (option_map (replace rid)) (out.each number) ∙ replaced_at rid number (issued_at issued number)
        ∙ ap (out_of words number) (sym (issued_map (machine.replace rid) issued number));
  }

  struck_waits : (b : Bool) (ticket other : OpenTicket) → cond ((b && not false) && not false) other ticket ≡ cond b other ticket
  struck_waits true ticket other = refl
  struck_waits false ticket other = refl

  waits_or_struck : (number r : ℕ) (b : Bool)
      → Some (cond b (record { number = number; rid = r; replaced = false; struck = true; answer = Some error_text }) (record { number = number; rid = r; replaced = false; struck = false; answer = words r }))
      ≡ out_of words number (Some (cond b (record { rid = r; state = Struck }) (record { rid = r; state = Waits })))
  waits_or_struck number r true = refl
  waits_or_struck number r false = refl

  -- a copy that was replaced, or was struck before, isn't struck
  struck_never : (b : Bool) (ticket other : OpenTicket) → (cond ((b && not false) && not true) other ticket ≡ ticket) × (cond ((b && not true) && not false) other ticket ≡ ticket)
  struck_never true ticket other = (refl, refl)
  struck_never false ticket other = (refl, refl)

  struck_in : (rid number r : ℕ) (state : TicketState) → option_map (strike rid error_text) (out_in words number r state) ≡ out_of words number (Some (strike_ticket rid (record { rid = r; state = state })))
  struck_in rid number r Waits =
      ap Some (struck_waits (r == rid) (record { number = number; rid = r; replaced = false; struck = false; answer = words r }) (record { number = number; rid = r; replaced = false; struck = true; answer = Some error_text }))
      ∙ waits_or_struck number r (r == rid)
  struck_in rid number r Replaced =
      ap Some (struck_never (r == rid) (record { number = number; rid = r; replaced = true; struck = false; answer = words r }) (record { number = number; rid = r; replaced = true; struck = true; answer = Some error_text })).0
      ∙ sym (same_state number r Replaced (r == rid))
  struck_in rid number r Struck =
      ap Some (struck_never (r == rid) (record { number = number; rid = r; replaced = false; struck = true; answer = Some error_text }) (record { number = number; rid = r; replaced = false; struck = true; answer = Some error_text })).1
      ∙ sym (same_state number r Struck (r == rid))
  struck_in rid number r UsedUp = sym (same_state number r UsedUp (r == rid))

  struck_at : (rid number : ℕ) (o : Option Issued) → option_map (strike rid error_text) (out_of words number o) ≡ out_of words number (option_map (strike_ticket rid) o)
  struck_at rid number None = refl
  struck_at rid number (Some ticket) = struck_in rid number ticket.rid ticket.state

  keeps_struck : (error : List ℕ) (b : Bool) (ticket : OpenTicket) → (cond b (record ticket { struck = true; answer = Some error }) ticket).number ≡ ticket.number
  keeps_struck error true ticket = refl
  keeps_struck error false ticket = refl

  -- the copy of an id is struck
  pub struck_out : (book : Book) (issued : List Issued) (rid : ℕ) → AreOut book issued words → AreOut (record book { out = map (strike rid error_text) book.out }) (map (strike_ticket rid) issued) words
  struck_out book issued rid out = record {
    handed_out_is = out.handed_out_is ∙ sym (length-map issued (strike_ticket rid));
    each = λ number.
        at_map (strike rid error_text) (λ ticket. keeps_struck error_text (is_for rid ticket && not ticket.replaced) ticket) book.out number
        ∙ ap (option_map (strike rid error_text)) (out.each number) ∙ struck_at rid number (issued_at issued number)
        ∙ ap (out_of words number) (sym (issued_map (strike_ticket rid) issued number));
  }

  -- a ticket is used up
  pub used_up_out : (book : Book) (issued : List Issued) (index : ℕ) (ticket : Issued) → slice_get issued index ≡ Some ticket → AreOut book issued words → AreOut (record book { out = without (suc index) book.out }) (slice_set issued index (record ticket { state = UsedUp })) words
  used_up_out book issued index ticket is out = record {
    handed_out_is = out.handed_out_is ∙ sym (length-set issued index (record ticket { state = UsedUp }));
    each = λ number. elim (cases_eq number (suc index)) [
      | inl same ↦
          let after : List Issued = slice_set issued index (record ticket { state = UsedUp }) in
          ap (ticket_at (without (suc index) book.out)) same ∙ at_without_same (suc index) book.out
          ∙ ap (out_of words (suc index)) (sym (get_set_same issued index ticket (record ticket { state = UsedUp }) is))
          ∙ ap (λ n. out_of words n (issued_at after n)) (sym same)
      | inr other ↦
          at_without_other (suc index) number book.out other ∙ out.each number
          ∙ ap (out_of words number) (sym (issued_set_other issued index number (record ticket { state = UsedUp }) other))
    ];
  }

-- each request may have other words after a step; its tickets have them then, and an error stays
module _ (words later : ℕ → Option (List ℕ)) where
  abbrev Gives : (OpenTicket → OpenTicket) → Type 0
  Gives f = (number rid : ℕ) (replaced : Bool) → f (record { number = number; rid = rid; replaced = replaced; struck = false; answer = words rid }) ≡ record { number = number; rid = rid; replaced = replaced; struck = false; answer = later rid }

  abbrev Spares : (OpenTicket → OpenTicket) → Type 0
  Spares f = (number rid : ℕ) → f (record { number = number; rid = rid; replaced = false; struck = true; answer = Some error_text }) ≡ record { number = number; rid = rid; replaced = false; struck = true; answer = Some error_text }

  changed_in : (f : OpenTicket → OpenTicket) → Gives f → Spares f → (number rid : ℕ) (state : TicketState) → option_map f (out_in words number rid state) ≡ out_in later number rid state
  changed_in f gives spares number rid Waits = ap Some (gives number rid false)
  changed_in f gives spares number rid Replaced = ap Some (gives number rid true)
  changed_in f gives spares number rid Struck = ap Some (spares number rid)
  changed_in f gives spares number rid UsedUp = refl

  changed_at : (f : OpenTicket → OpenTicket) → Gives f → Spares f → (number : ℕ) (o : Option Issued) → option_map f (out_of words number o) ≡ out_of later number o
  changed_at f gives spares number None = refl
  changed_at f gives spares number (Some ticket) = changed_in f gives spares number ticket.rid ticket.state

  changed_out : (f : OpenTicket → OpenTicket) → ((ticket : OpenTicket) → (f ticket).number ≡ ticket.number) → Gives f → Spares f → (book : Book) (issued : List Issued) → AreOut book issued words → AreOut (record book { out = map f book.out }) issued later
  changed_out f keeps gives spares book issued out = record {
    handed_out_is = out.handed_out_is;
    each = λ number. at_map f keeps book.out number ∙ ap (option_map f) (out.each number) ∙ changed_at f gives spares number (issued_at issued number);
  }

  keeps_answered : (answer : Option (List ℕ)) (b : Bool) (ticket : OpenTicket) → (cond b (record ticket { answer = answer }) ticket).number ≡ ticket.number
  keeps_answered answer true ticket = refl
  keeps_answered answer false ticket = refl

  answered_if : (b c : Bool) (ticket : OpenTicket) (answer : Option (List ℕ)) → b ≡ c → cond (b && not false) (record ticket { answer = answer }) ticket ≡ cond c (record ticket { answer = answer }) ticket
  answered_if true c ticket answer is = ap (λ (t : Bool). cond t (record ticket { answer = answer }) ticket) is
  answered_if false c ticket answer is = ap (λ (t : Bool). cond t (record ticket { answer = answer }) ticket) is

  spared : (b : Bool) (ticket : OpenTicket) (answer : Option (List ℕ)) → cond (b && not true) (record ticket { answer = answer }) ticket ≡ ticket
  spared true ticket answer = refl
  spared false ticket answer = refl

  -- a request is answered
  pub answered_out : (book : Book) (issued : List Issued) (rid : ℕ) (bytes : List ℕ) → later rid ≡ Some bytes → ((other : ℕ) → other ≢ rid → later other ≡ words other) → AreOut book issued words → AreOut (record book { out = map (give_answer rid bytes) book.out }) issued later
  answered_out book issued rid bytes answered same out = changed_out (give_answer rid bytes) (λ ticket. keeps_answered (Some bytes) (is_for rid ticket) ticket)
      (λ number r replaced.
      let ticket : OpenTicket = record { number = number; rid = r; replaced = replaced; struck = false; answer = words r } in
      elim (cases_eq r rid) [
        | inl here ↦
            answered_if (r == rid) true ticket (Some bytes) (equal_test r rid here)
            ∙ ap (λ answer. record { number = number; rid = r; replaced = replaced; struck = false; answer = answer }) (sym answered ∙ ap later (sym here))
        | inr other ↦
            answered_if (r == rid) false ticket (Some bytes) (other_test r rid other)
            ∙ ap (λ answer. record { number = number; rid = r; replaced = replaced; struck = false; answer = answer }) (sym (same r other))
      ])
      (λ number r. spared (r == rid) (record { number = number; rid = r; replaced = false; struck = true; answer = Some error_text }) (Some bytes)) book issued out

  worded : (number r : ℕ) (replaced : Bool) (o : Option (List ℕ)) (word : List ℕ) → cond {A = OpenTicket} (is_some o) (record { number = number; rid = r; replaced = replaced; struck = false; answer = o }) (record { number = number; rid = r; replaced = replaced; struck = false; answer = Some word }) ≡ record { number = number; rid = r; replaced = replaced; struck = false; answer = option_or o (Some word) }
  worded number r replaced None word = refl
  worded number r replaced (Some bytes) word = refl

  keeps_worded : (answer : Option (List ℕ)) (b : Bool) (ticket : OpenTicket) → (cond b ticket (record ticket { answer = answer })).number ≡ ticket.number
  keeps_worded answer true ticket = refl
  keeps_worded answer false ticket = refl

  -- the session ends
  pub ended_out : (book : Book) (issued : List Issued) (breaker : ℕ) (word other : List ℕ) → ((rid : ℕ) → later rid ≡ option_or (words rid) (Some (cond (rid == breaker) word other))) → AreOut book issued words → AreOut (record book { out = map (give_word breaker word other) book.out }) issued later
  ended_out book issued breaker word other ends out = changed_out (give_word breaker word other) (λ ticket. keeps_worded (Some (cond (ticket.rid == breaker) word other)) (is_some ticket.answer) ticket)
      (λ number r replaced.
      worded number r replaced (words r) (cond (r == breaker) word other)
      ∙ ap (λ answer. record { number = number; rid = r; replaced = replaced; struck = false; answer = answer }) (sym (ends r)))
      (λ number r. refl) book issued out

-- Collecting.

-- the tickets after this was told of one
abbrev after_told : Book → ℕ → Collected → Book
after_told book number told = if uses_up told then record book { out = without number book.out } else book

-- what is told is the plain session's reply, and the tickets are then those of the plain session after it
abbrev Collects : Book → ℕ → Collected → PlainSession × Collected → Type 0
Collects book number told after =
    (told ≡ after.1) × AreOut (after_told book number told) after.0.tickets (machine.bytes_for after.0)

module _ (s : PlainSession) (book : Book) (index : ℕ) (out : AreOut book s.tickets (machine.bytes_for s)) where
  collects_bytes : (ticket : Issued) → slice_get s.tickets index ≡ Some ticket → (o : Option (List ℕ)) → Collects book (suc index) (told_answer o) (machine.collected_bytes s index ticket o)
  collects_bytes ticket is None = (refl, out)
  collects_bytes ticket is (Some bytes) = (refl, used_up_out (machine.bytes_for s) book s.tickets index ticket is out)

  collects_by : (ticket : Issued) → slice_get s.tickets index ≡ Some ticket → (state : TicketState) → Collects book (suc index) (told_of (out_in (machine.bytes_for s) (suc index) ticket.rid state)) (machine.collected_by s index ticket state)
  collects_by ticket is Waits = collects_bytes ticket is (machine.bytes_for s ticket.rid)
  collects_by ticket is Replaced = (refl, used_up_out (machine.bytes_for s) book s.tickets index ticket is out)
  collects_by ticket is Struck = (refl, used_up_out (machine.bytes_for s) book s.tickets index ticket is out)
  collects_by ticket is UsedUp = (refl, out)

  collects_from : (o : Option Issued) → slice_get s.tickets index ≡ o → Collects book (suc index) (told_of (out_of (machine.bytes_for s) (suc index) o)) (machine.collected_from s index o)
  collects_from None is = (refl, out)
  collects_from (Some ticket) is = collects_by ticket is ticket.state

collects_at : (s : PlainSession) (book : Book) (number : ℕ) → AreOut book s.tickets (machine.bytes_for s) → Collects book number (told_of (out_of (machine.bytes_for s) number (issued_at s.tickets number))) (machine.collect s number)
collects_at s book zero out = (refl, out)
collects_at s book (suc index) out = collects_from s book index out (slice_get s.tickets index) refl

-- a ticket is collected
pub collected_out : (s : PlainSession) (book : Book) (number : ℕ) → AreOut book s.tickets (machine.bytes_for s) → (told_of (ticket_at book.out number) ≡ (machine.collect s number).1) × AreOut (collected book number) (machine.collect s number).0.tickets (machine.bytes_for (machine.collect s number).0)
collected_out s book number out =
    let told : told_of (out_of (machine.bytes_for s) number (issued_at s.tickets number)) ≡ told_of (ticket_at book.out number) = ap told_of (sym (out.each number)) in
    subst (λ t. Collects book number t (machine.collect s number)) told (collects_at s book number out)
