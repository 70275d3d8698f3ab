-- Whatever the parts in which a sheet comes, its reader is told what is told of the parts joined, and there is such a
-- reading for any parts.
use Rattle.std.specs.Prelude.{◌≡◌, refl, Bool, true, false, ℕ, zero, suc, ◌+◌, ◌-◌, ◌%◌, ◌≤◌, ◌<◌, ltb, eqb, length, take, drop}
use Rattle.std.proofs.Common.{sym, ap, ◌∙◌, arith, length-append, length-take, length-drop, take-append-drop, length-take-le, take_all, drop-drop}
use mathlib.Core.List.{List, [], ◌∷◌, ◌++◌, append_assoc, flatten}
use borrow.Author.Tests.{ltb-true, ltb-false}
use Rattle.std.proofs.Math.Seq.{length-sets}
use Rattle.units.specs.Tests.{pick, picked, picked_of_both}
use Rattle.units.specs.Places.{sets_behind}
use Rattle.sheet.specs.declared.Order.{Order}
use Rattle.sheet.specs.declared.Place.{Place}
use Rattle.sheet.specs.Stepped.{Stepped}
use Rattle.sheet.specs.Stepped as step
use Rattle.sheet.specs.Finished.{Finished}
use Rattle.sheet.specs.Finished as finish
use Rattle.sheet.specs.Bytes.{up_to, behind}
use Rattle.sheet.specs.Line.{LineRead, Right, Wrong, wrong_field, fault_of, line_of}
use Rattle.sheet.specs.Sheet.{newline, line_most, too_long, unended, ended, refused, Told, nothing_but, ◌before◌, by_line, ending_at, told, told_of}
use Rattle.sheet.specs.Reading.{line_start, line_step, line_here, begun_of, step_of, held_after, finish_of}
use Rattle.sheet.specs.Parts.{Reader, steps, kept, at_start, finished, Feeds, goes_on, orders, refuses, finishes}
use Rattle.sheet.specs.BytesLaws.{up_front, behind_is}
use Rattle.sheet.specs.ToldLaws.{up_without, up_all, up_splits, told_goes_on, told_too_long, told_line, told_end}

-- a wrong line is refused by a number
wrong_some : (line : List ℕ) {code : ℕ} → line_of line ≡ Wrong code → 0 < code
unfolding line_of fault_of
wrong_some line {code} e =
    picked (λ (x : LineRead). x ≡ Wrong code → 0 < code) (eqb (wrong_field line) 0) _ _
    (λ _ h. let z : ◌≡◌ {A = ℕ} 0 1 = cc in absurd (omega arith))
    (λ _ h.
    let same : fault_of (wrong_field line) ≡ code = cc in
    rw (← same) (picked_of_both (λ (n : ℕ). 0 < n) (eqb (wrong_field line % 2) 0) 43 44 (omega arith) (omega arith)))
    e

module _ (line : ℕ) (begun bytes : List ℕ) (from : ℕ) where
  -- the line at hand
  abbrev here : List ℕ
  here = line_here begun bytes

  -- a step goes one of three ways
  data Goes : Stepped → Type 0 where
    is_long : line_most < length here → Goes (step.Refused too_long line)
    is_line : length here ≤ line_most → length (up_to newline bytes) < length bytes → Goes (line_step (line_of here) line (from + length (up_to newline bytes) + 1))
    is_more : length here ≤ line_most → length bytes ≤ length (up_to newline bytes) → Goes (step.More (record { line = line; held = length here }))

  goes : Goes (step_of line begun bytes from)
  unfolding step_of
  goes =
      picked Goes (ltb line_most (length here)) _ _
      (λ h. is_long (ltb-true line_most (length here) h))
      (λ h. let few = ltb-false line_most (length here) h in
      picked Goes (ltb (length (up_to newline bytes)) (length bytes)) _ _
      (λ t. is_line few (ltb-true (length (up_to newline bytes)) (length bytes) t))
      (λ t. is_more few (ltb-false (length (up_to newline bytes)) (length bytes) t)))

  -- where it gives more, all bytes belong to the line
  record Mores (p : Place) : Type 0 where
    place : p ≡ record { line = line; held = length here }
    few : length here ≤ line_most
    all : up_to newline bytes ≡ bytes

  mores : {p : Place} → step_of line begun bytes from ≡ step.More p → Mores p
  mores {p} e = go goes e
    where
      apart : (x : LineRead) (end : ℕ) → line_step x line end ≡ step.More p → ⊥
      apart (Right o) end e = let z : ◌≡◌ {A = ℕ} 0 1 = cc in omega arith
      apart (Wrong code) end e = let z : ◌≡◌ {A = ℕ} 0 1 = cc in omega arith

      go : {x : Stepped} → Goes x → x ≡ step.More p → Mores p
      go (is_long h) e = let z : ◌≡◌ {A = ℕ} 0 1 = cc in absurd (omega arith)
      go (is_line few there) e = absurd (apart (line_of here) _ e)
      go (is_more few none) e = record { place = cc; few = few; all = up_all newline bytes none }

  -- where it gives an order, that of the line, which a newline ends
  record Orders (o : Order) (end : ℕ) (p : Place) : Type 0 where
    says : line_of here ≡ Right o
    place : p ≡ line_start (line + 1)
    few : length here ≤ line_most
    there : length (up_to newline bytes) < length bytes
    end_is : end ≡ from + length (up_to newline bytes) + 1

  orders_of : {o : Order} {end : ℕ} {p : Place} → step_of line begun bytes from ≡ step.Order o end p → Orders o end p
  orders_of {o} {end} {p} e = go goes e
    where
      by : (x : LineRead) → line_of here ≡ x → length here ≤ line_most → length (up_to newline bytes) < length bytes →
          line_step x line (from + length (up_to newline bytes) + 1) ≡ step.Order o end p → Orders o end p
      by (Right o') is few there e = let same : o' ≡ o = cc in record { says = is ∙ ap Right same; place = cc; few = few; there = there; end_is = cc }
      by (Wrong code) is few there e = let z : ◌≡◌ {A = ℕ} 0 1 = cc in absurd (omega arith)

      go : {x : Stepped} → Goes x → x ≡ step.Order o end p → Orders o end p
      go (is_long h) e = let z : ◌≡◌ {A = ℕ} 0 1 = cc in absurd (omega arith)
      go (is_line few there) e = by (line_of here) refl few there e
      go (is_more few none) e = let z : ◌≡◌ {A = ℕ} 0 1 = cc in absurd (omega arith)

  -- and where the line is refused
  pub data Refuses (code at : ℕ) : Type 0 where
    is_long : line_most < length here → code ≡ too_long → at ≡ line → Refuses code at
    is_wrong : line_of here ≡ Wrong code → at ≡ line → length here ≤ line_most → length (up_to newline bytes) < length bytes → Refuses code at

  refuses_of : {code at : ℕ} → step_of line begun bytes from ≡ step.Refused code at → Refuses code at
  refuses_of {code} {at} e = go goes e
    where
      by : (x : LineRead) → line_of here ≡ x → length here ≤ line_most → length (up_to newline bytes) < length bytes →
          line_step x line (from + length (up_to newline bytes) + 1) ≡ step.Refused code at → Refuses code at
      by (Right o) is few there e = let z : ◌≡◌ {A = ℕ} 0 1 = cc in absurd (omega arith)
      by (Wrong c) is few there e = let same : c ≡ code = cc in is_wrong (is ∙ ap Wrong same) (cc) few there

      go : {x : Stepped} → Goes x → x ≡ step.Refused code at → Refuses code at
      go (is_long h) e = is_long h (cc) (cc)
      go (is_line few there) e = by (line_of here) refl few there e
      go (is_more few none) e = let z : ◌≡◌ {A = ℕ} 0 1 = cc in absurd (omega arith)

-- the memory behind a step: the bytes of a line that goes on stand in front
held_front :
    (p : Place) (held bytes : List ℕ) → p.held ≤ line_most → line_most ≤ length held → length (line_here (begun_of p held) bytes) ≤ line_most →
    take (length (line_here (begun_of p held) bytes)) (held_after p held bytes) ≡ line_here (begun_of p held) bytes
unfolding held_after
held_front p held bytes fits room few =
    let xs : List ℕ = up_to newline bytes in
    let begun_long : length (begun_of p held) ≡ p.held = length-take-le p.held held (omega arith) in
    let long : length (line_here (begun_of p held) bytes) ≡ p.held + length xs = omega (arith, length-append (begun_of p held) xs) in
    let all : take (line_most - p.held) xs ≡ xs = take_all (line_most - p.held) xs (omega arith) in
    rw (long, all) (sets_behind xs held p.held (omega arith))

-- a reader that can step
pub record Good (r : Reader) : Type 0 where
  pub few : r.place.held ≤ line_most
  pub room : line_most ≤ length r.held
  pub begun : r.from ≤ length r.part

-- what is told of the part at hand and of what comes behind it
abbrev pub left : Reader → List ℕ → Told
left r rest = told r.place.line (begun_of r.place r.held) (drop r.from r.part ++ rest)

module _ (r : Reader) (good : Good r) where
  abbrev line : ℕ
  line = r.place.line

  abbrev begun : List ℕ
  begun = begun_of r.place r.held

  abbrev bytes : List ℕ
  bytes = drop r.from r.part

  pub kept_long : length (kept r) ≡ length r.held
  unfolding held_after
  kept_long = simp length-sets

  begun_few : length begun ≤ line_most
  begun_few = omega (arith, length-take r.place.held r.held, good.few)

  -- the line at hand goes on with the next part
  module _ {p : Place} (e : steps r ≡ step.More p) where
    more : Mores line begun bytes r.from p
    more = mores line begun bytes r.from e

    pub more_line : p.line ≡ line
    more_line = ap (λ (p : Place). p.line) more.place

    pub more_good : (part : List ℕ) → Good (record { place = p; held = kept r; part = part; from = 0 })
    more_good part = record {
      few = omega (arith, ap (λ (p : Place). p.held) more.place, more.few);
      room = omega (arith, kept_long, good.room);
      begun = omega arith;
    }

    pub more_left : (rest : List ℕ) → left r rest ≡ told p.line (begun_of p (kept r)) rest
    more_left rest =
        let front : begun_of p (kept r) ≡ line_here begun bytes = rw more.place (held_front r.place r.held bytes good.few good.room more.few) in
        let none = up_without newline bytes in
        rw (front, more.place, more.all)
        (told_goes_on line begun bytes rest (rw more.all at none) (omega (arith, more.few, ap length more.all, length-append begun (up_to newline bytes))))

  -- where a newline ends the line, what is told of it
  line_left : (rest : List ℕ) → length (line_here begun bytes) ≤ line_most → length (up_to newline bytes) < length bytes →
      left r rest ≡ by_line (line_of (line_here begun bytes)) line (told (line + 1) [] (behind newline bytes ++ rest))
  line_left rest few there =
      let cut : bytes ++ rest ≡ up_to newline bytes ++ (newline ∷ behind newline bytes ++ rest)
      = ap (λ (l : List ℕ). l ++ rest) (up_splits newline bytes there) ∙ append_assoc (up_to newline bytes) (newline ∷ behind newline bytes) rest in
      ap (told line begun) cut
      ∙ told_goes_on line begun (up_to newline bytes) _ (up_without newline bytes) (omega (arith, few, length-append begun (up_to newline bytes)))
      ∙ told_line line (line_here begun bytes) (behind newline bytes ++ rest)

  module _ {o : Order} {end : ℕ} {p : Place} (e : steps r ≡ step.Order o end p) where
    order : Orders line begun bytes r.from o end p
    order = orders_of line begun bytes r.from e

    bytes_long : length bytes ≡ length r.part - r.from
    bytes_long = length-drop r.from r.part

    pub order_line : p.line ≡ line + 1
    order_line = ap (λ (p : Place). p.line) order.place

    pub order_onward : (r.from < end) × (end ≤ length r.part)
    order_onward = (omega (arith, order.end_is), omega (arith, order.end_is, order.there, bytes_long))

    pub order_good : Good (record { place = p; held = kept r; part = r.part; from = end })
    order_good = record {
      few = omega (arith, ap (λ (p : Place). p.held) order.place);
      room = omega (arith, kept_long, good.room);
      begun = order_onward.1;
    }

    pub order_left : (rest : List ℕ) → left r rest ≡ o before told p.line (begun_of p (kept r)) (drop end r.part ++ rest)
    order_left rest =
        let n : ℕ = length (up_to newline bytes) in
        let past : end ≡ r.from + suc n = omega (arith, order.end_is) in
        let behind_it : drop end r.part ≡ behind newline bytes = rw (past, ← drop-drop (suc n) r.from r.part) (behind_is newline bytes order.there) in
        line_left rest order.few order.there ∙ rw (order.says, order.place, behind_it)

  pub refused_left : {code at : ℕ} → steps r ≡ step.Refused code at → (rest : List ℕ) → left r rest ≡ nothing_but (refused code at)
  refused_left {code} {at} e rest = go (refuses_of line begun bytes r.from e)
    where
      go : Refuses line begun bytes r.from code at → left r rest ≡ nothing_but (refused code at)
      go (is_long h by is) =
          let xs : List ℕ = up_to newline bytes in
          let cut : bytes ++ rest ≡ xs ++ (drop (length xs) bytes ++ rest)
          = ap (λ (l : List ℕ). l ++ rest) (sym (rw (up_front newline bytes) at (take-append-drop (length xs) bytes))) ∙ append_assoc xs (drop (length xs) bytes) rest in
          rw (by, is)
          (ap (told line begun) cut ∙ told_too_long line begun xs _ (up_without newline bytes) begun_few (omega (arith, h, length-append begun xs)))
      go (is_wrong says is few there) = rw is (line_left rest few there ∙ rw says)

  -- it is refused by a number, at its line
  pub refused_is : {code at : ℕ} → steps r ≡ step.Refused code at → (0 < code) × (at ≡ line)
  refused_is {code} {at} e = go (refuses_of line begun bytes r.from e)
    where
      go : Refuses line begun bytes r.from code at → (0 < code) × (at ≡ line)
      go (is_long h by is) = (omega arith, is)
      go (is_wrong says is few there) = (wrong_some (line_here begun bytes) says, is)

-- how a sheet finishes is how it ends where nothing is left
pub finish_told : (p : Place) (held : List ℕ) → p.held ≤ length held → finished (finish_of p) ≡ told p.line (begun_of p held) []
unfolding finish_of ending_at pick
finish_told p held fits =
    let long : length (begun_of p held) ≡ p.held = length-take-le p.held held fits in
    go (eqb p.held 0) ∙ sym (told_end p.line (begun_of p held) ∙ ap nothing_but (ends long))
  where
    go : (t : Bool) → finished (pick t finish.Ended (finish.Refused unended p.line)) ≡ nothing_but (pick t ended (refused unended p.line))
    go true = refl
    go false = refl

    ends : length (begun_of p held) ≡ p.held → ending_at p.line (begun_of p held) ≡ pick (eqb p.held 0) ended (refused unended p.line)
    ends long = rw long

-- where it is refused, at its line
pub finish_line : (p : Place) {code line : ℕ} → finish_of p ≡ finish.Refused code line → (0 < code) × (line ≡ p.line)
unfolding finish_of
finish_line p {code} {line} e =
    picked (λ (x : Finished). x ≡ finish.Refused code line → (0 < code) × (line ≡ p.line)) (eqb p.held 0) _ _
    (λ _ h. let z : ◌≡◌ {A = ℕ} 0 1 = cc in absurd (omega arith))
    (λ _ h. let same : unended ≡ code = cc in (omega arith, cc))
    e

feeds_told : {r : Reader} {parts : List (List ℕ)} {t : Told} → Good r → Feeds r parts t → t ≡ left r (flatten parts)
unfolding flatten
feeds_told {r} good (goes_on {part = part} {parts = parts} e f) = feeds_told (more_good r good e part) f ∙ sym (more_left r good e (part ++ flatten parts))
feeds_told {r} good (orders {o = o} {parts = parts} e f) = ap (λ (t : Told). o before t) (feeds_told (order_good r good e) f) ∙ sym (order_left r good e (flatten parts))
feeds_told {r} good (refuses {parts = parts} e) = sym (refused_left r good e (flatten parts))
feeds_told {r} good (finishes {p = p} e) =
    finish_told p (kept r) (omega (arith, (more_good r good e []).few, (more_good r good e []).room)) ∙ sym (more_left r good e [])

start_good : (held : List ℕ) → line_most ≤ length held → Good (at_start held)
start_good held room = record { few = omega arith; room = room; begun = omega arith }

-- Cutting a sheet anywhere, into any number of parts, changes nothing of what is told.
pub cut_anywhere : (held : List ℕ) (parts : List (List ℕ)) (t : Told) → line_most ≤ length held → Feeds (at_start held) parts t → t ≡ told_of (flatten parts)
unfolding told_of
cut_anywhere held parts t room f = feeds_told (start_good held room) f

-- what a reader has before it: bytes and parts
abbrev ahead : Reader → List (List ℕ) → ℕ
ahead r parts = length r.part - r.from + length (flatten parts) + length parts

abbrev Fed : Reader → List (List ℕ) → Type 0
Fed r parts = (t : Told) × Feeds r parts t

-- each step leaves less ahead
by_step :
    (n : ℕ) (r : Reader) (parts : List (List ℕ)) → ahead r parts < suc n → Good r →
    ((next : Reader) (rest : List (List ℕ)) → ahead next rest < n → Good next → Fed next rest) →
    (x : Stepped) → steps r ≡ x → Fed r parts
unfolding flatten
by_step n r [] h good on (step.More p) e = (_, finishes e)
by_step n r (part ∷ parts) h good on (step.More p) e =
    let f = on (record { place = p; held = kept r; part = part; from = 0 }) parts (omega (arith, length-append part (flatten parts))) (more_good r good e part) in
    (f.0, goes_on e f.1)
by_step n r parts h good on (step.Order o end p) e =
    let f = on (record { place = p; held = kept r; part = r.part; from = end }) parts (omega (arith, order_onward r good e)) (order_good r good e) in
    (o before f.0, orders e f.1)
by_step n r parts h good on (step.Refused code at) e = (_, refuses e)

feed : (n : ℕ) (r : Reader) (parts : List (List ℕ)) → ahead r parts < n → Good r → Fed r parts
feed zero r parts h good = absurd (omega arith)
feed (suc n) r parts h good = by_step n r parts h good (feed n) (steps r) refl

-- and for any parts there is such a reading
pub fed_whole : (held : List ℕ) (parts : List (List ℕ)) → line_most ≤ length held → Feeds (at_start held) parts (told_of (flatten parts))
fed_whole held parts room =
    let f = feed (suc (ahead (at_start held) parts)) (at_start held) parts (omega arith) (start_good held room) in
    rw (cut_anywhere held parts f.0 room f.1) at f.1
