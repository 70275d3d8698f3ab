-- The loops of the writer: the bytes of the numbers passed. What it answers and leaves, by the refusal.
use Rattle.std.proofs.Math.Path.{◌≡◌, refl, sym, ap}
use Rattle.std.proofs.Common.{◌∙◌, zero-add, add-one, length-append, length-drop, take-append-drop, drop_of_length-le, take_all, drop-drop}
use Rattle.std.specs.Prelude.{Bool, ◌↔◌, ℕ, ◌+◌, ◌-◌, ◌*◌, ◌≤◌, ◌<◌, get_or, take, drop, Ok, Err}
use Rattle.std.proofs.Math.Bool.{true, false}
use mathlib.Core.List.{List, [], ◌∷◌, ◌++◌, append_assoc, append-nil}
use native.Mathlib.Omega.{arith}
use Rattle.std.proofs.Math.Dec.{ltb}
use Rattle.std.proofs.Math.ListN.{length}
use Rattle.std.proofs.lemmas.List.Edits.{sets, sets-eq}
use Rattle.std.proofs.Math.Seq.{length-sets, take-suc}
use borrow.Author.Tests.{lt-ltb, le-ltb, ltb-true, ltb-false}
use borrow.Rule.Slice.PartMut.{mid_of, put_mid}
use Rattle.units.specs.Tests.{is_not, pick, pick_yes, pick_no}
use Rattle.units.specs.CaseLaws.{apart, GivenBy, first_given, all_fail}
use Rattle.units.specs.Places.{sets_append}
use Rattle.numeral.specs.Number.{groups}
use Rattle.numeral.specs.Encode.{encode}
use Rattle.numeral.specs.Writing.{bytes_most}
use Rattle.tape.specs.Tape.{event, stored}
use Rattle.tape.specs.Several.{stored_sets, stored_front}
use Rattle.tape.specs.Leads.{encode_all}
use Rattle.tape.specs.Depth.{most_bytes}
use Rattle.tape.specs.Spelling.{spells_leads, leads_spells}
use Rattle.tape.specs.One.{one_event}
use Rattle.tape.specs.OneLaws.{one_leads, leads_one, one_within}
use Rattle.writer.specs.declared.Refusal.{Refusal}
use Rattle.writer.specs.declared.Refusal.TheVariants.{NoRoom, NotOneEvent}
use Rattle.writer.specs.Refusal.{refusal_number, refusal_of}
use Rattle.writer.specs.Tapes.{IsEvent}
use Rattle.writer.specs.Write.{Written, write_cases, write_refusal, used_bytes, written_of, Told, buffer_after}

-- the bytes of numbers after numbers
encode_append : (vs ws : List ℕ) → encode_all (vs ++ ws) ≡ encode_all vs ++ encode_all ws
unfolding encode_all
encode_append [] ws = refl
encode_append (v ∷ vs) ws = ap (λ (l : List ℕ). encode v ++ l) (encode_append vs ws) ∙ sym (append_assoc (encode v) (encode_all vs) (encode_all ws))

module _ (vs : List ℕ) where
  -- one number more
  encode_next : (i : ℕ) → i < length vs → encode_all (take (i + 1) vs) ≡ encode_all (take i vs) ++ encode (get_or vs i 0)
  unfolding encode_all
  encode_next i h =
      rw (add-one, take-suc vs i 0 h) (encode_append (take i vs) (get_or vs i 0 ∷ []) ∙ ap (λ (l : List ℕ). encode_all (take i vs) ++ l) (append-nil (encode (get_or vs i 0))))

  -- the bytes of i numbers are among those of all
  pub passed_within : (i : ℕ) → length (encode_all (take i vs)) ≤ length (encode_all vs)
  passed_within i =
      let e : encode_all vs ≡ encode_all (take i vs) ++ encode_all (drop i vs) = ap encode_all (sym (take-append-drop i vs)) ∙ encode_append (take i vs) (drop i vs) in
      omega (arith, ap length e, length-append (encode_all (take i vs)) (encode_all (drop i vs)))

  pub passed_next : (i : ℕ) → i < length vs → length (encode_all (take (i + 1) vs)) ≡ length (encode_all (take i vs)) + length (encode (get_or vs i 0))
  passed_next i h = ap length (encode_next i h) ∙ length-append (encode_all (take i vs)) (encode (get_or vs i 0))

  -- a loop that counts the bytes down from the room
  pub record Counting (room i left : ℕ) : Type 0 where
    pub within : i ≤ length vs
    pub counted : length (encode_all (take i vs)) + left ≡ room

  -- a loop that lays the numbers out: the first i stand
  pub record Laying (was : List ℕ) (i : ℕ) (buffer : List ℕ) (at : ℕ) : Type 0 where
    pub within : i ≤ length vs
    pub end : at ≡ length (encode_all (take i vs))
    pub laid : buffer ≡ sets was 0 (encode_all (take i vs))

  pub counting_starts : (room : ℕ) → Counting room 0 room
  unfolding encode_all
  counting_starts room = record { within = omega arith; counted = omega arith }

  pub laying_starts : (was : List ℕ) → Laying was 0 was 0
  unfolding encode_all
  laying_starts was = record { within = omega arith; end = refl; laid = refl }

  module _ {room i left : ℕ} (c : Counting room i left) where
    pub counting_exceeds : {bytes : ℕ} → i < length vs → bytes ≡ length (encode (get_or vs i 0)) → left < bytes → true ≡ ltb room (length (encode_all vs))
    counting_exceeds h is short =
        sym (lt-ltb room (length (encode_all vs)) (omega (arith, c.counted, passed_next i h, passed_within (i + 1))))

    pub counting_goes_on : {bytes : ℕ} → i < length vs → bytes ≡ length (encode (get_or vs i 0)) → bytes ≤ left → Counting room (i + 1) (left - bytes)
    counting_goes_on h is fits = record { within = omega arith; counted = omega (arith, c.counted, passed_next i h) }

    pub counting_ends : length vs ≤ i → false ≡ ltb room (length (encode_all vs))
    counting_ends h = sym (le-ltb room (length (encode_all vs)) (omega (arith, c.counted, ap (λ (l : List ℕ). length (encode_all l)) (take_all i vs h))))

  module _ {was buffer : List ℕ} {i at : ℕ} (l : Laying was i buffer at) where
    pub laying_goes_on :
        {next : List ℕ} {bytes : ℕ} → i < length vs → next ≡ sets buffer at (encode (get_or vs i 0)) → bytes ≡ length (encode (get_or vs i 0)) →
        Laying was (i + 1) next (at + bytes)
    laying_goes_on h is long = record {
      within = omega arith;
      end = omega (arith, l.end, passed_next i h);
      laid = is ∙ rw (l.laid, l.end, encode_next i h, ← zero-add (length (encode_all (take i vs)))) (sym (sets_append (encode_all (take i vs)) (encode (get_or vs i 0)) was 0));
    }

    pub laying_long : length buffer ≡ length was
    laying_long = ap length l.laid ∙ length-sets was 0 (encode_all (take i vs))

    pub laying_ends : length vs ≤ i → (buffer ≡ stored (encode_all vs) was) × (at ≡ length (encode_all vs))
    laying_ends h =
        let all : encode_all (take i vs) ≡ encode_all vs = ap encode_all (take_all i vs h) in
        (l.laid ∙ (ap (sets was 0) all ∙ stored_sets (encode_all vs) was), l.end ∙ ap length all)

-- numbers are one event where they make one
pub event_says : (vs : List ℕ) → (one_event event vs ≡ true) ↔ IsEvent vs
event_says vs = (
  λ h. (let l = one_leads event vs h in (l.0, leads_spells vs l.0 l.1)),
  λ (e, is). leads_one event vs e (spells_leads vs e is),
)

-- the refusals, each by its test
module _ (vs : List ℕ) (room : ℕ) where
  cases_apart : apart 0 (write_cases vs room) ≡ true
  cases_apart = refl

  pub refused_by : GivenBy (write_refusal vs room) 0 (write_cases vs room)
  unfolding write_refusal
  refused_by = first_given 0 (write_cases vs room) cases_apart

  -- what is not refused is one event, and there is room for it
  pub accepted : write_refusal vs room ≡ 0 → (one_event event vs ≡ true) × (length (encode_all vs) ≤ room)
  unfolding is_not
  accepted e = (
    holds (one_event event vs) (all_fail refused_by e 0),
    ltb-false room (length (encode_all vs)) (all_fail refused_by e 1),
  )
    where
      holds : (t : Bool) → is_not t ≡ false → t ≡ true
      holds true h = refl
      holds false h = sym h

-- five bytes for each number are always enough
bytes_within : (vs : List ℕ) → length (encode_all vs) ≤ groups * length vs
unfolding encode_all
bytes_within [] = omega arith
bytes_within (v ∷ vs) = omega (arith, length-append (encode v) (encode_all vs), bytes_most groups v, bytes_within vs)

-- so an event is never refused with room for the longest
pub never_short : (vs : List ℕ) (room : ℕ) → most_bytes ≤ room → one_event event vs ≡ true → write_refusal vs room ≡ 0
unfolding write_refusal pick is_not
never_short vs room h one =
    rw (one, le-ltb room (length (encode_all vs)) (omega (arith, bytes_within vs, one_within vs one)))

-- a refusal is that of its number, which is not 0
pub of_number : (why : Refusal) → refusal_of (refusal_number why) ≡ why
unfolding refusal_of pick
of_number NoRoom = refl
of_number NotOneEvent = refl

pub some_number : (why : Refusal) → 0 < refusal_number why
some_number NoRoom = omega arith
some_number NotOneEvent = omega arith

-- and a number that refuses is that of its refusal
number_of : (vs : List ℕ) (room : ℕ) → ltb 0 (write_refusal vs room) ≡ true → refusal_number (refusal_of (write_refusal vs room)) ≡ write_refusal vs room
unfolding write_refusal refusal_of pick
number_of vs room h = go (is_not (one_event event vs)) (ltb room (length (encode_all vs))) h
  where
    go : (t u : Bool) → ltb 0 (pick t 41 (pick u 40 0)) ≡ true → refusal_number (refusal_of (pick t 41 (pick u 40 0))) ≡ pick t 41 (pick u 40 0)
    go true u h = refl
    go false true h = refl
    go false false h = absurd (omega (arith, ltb-true 0 0 h))

-- what the writer answers, and what it leaves in the lent memory
module _ (vs was : List ℕ) where
  abbrev Writes : Written → List ℕ → Type 0
  Writes r buffer = (r ≡ written_of vs (length was)) × (Told vs (length was) r × (buffer ≡ buffer_after vs was))

  pub refuses : {why : Refusal} → refusal_number why ≡ write_refusal vs (length was) → Writes (Err why) was
  unfolding written_of used_bytes buffer_after
  refuses {why} e =
      let t : ltb 0 (write_refusal vs (length was)) ≡ true = rw (← e) (lt-ltb 0 (refusal_number why) (some_number why)) in
      let same : why ≡ refusal_of (write_refusal vs (length was)) = sym (of_number why) ∙ ap refusal_of e in
      (ap Err same ∙ sym (pick_yes _ _ t), (record { code = e; used = sym (pick_yes _ _ t) }, sym (pick_yes _ _ t)))

  pub writes :
      {used : ℕ} {buffer : List ℕ} → write_refusal vs (length was) ≡ 0 → buffer ≡ stored (encode_all vs) was → used ≡ length (encode_all vs) →
      Writes (Ok used) buffer
  unfolding written_of used_bytes buffer_after
  writes e laid long =
      let t : ltb 0 (write_refusal vs (length was)) ≡ false = rw e (le-ltb 0 0 (omega arith)) in
      (ap Ok long ∙ sym (pick_no _ _ t), (record { code = sym e; used = long ∙ sym (pick_no _ _ t) }, laid ∙ sym (pick_no _ _ t)))

-- the bytes used lie in the room
pub used_within : (vs : List ℕ) (room n : ℕ) → written_of vs room ≡ Ok n → n ≤ room
unfolding written_of pick
used_within vs room n q = go (ltb 0 (write_refusal vs room)) refl q
  where
    go : (t : Bool) → ltb 0 (write_refusal vs room) ≡ t → ◌≡◌ {A = Written} (pick t (Err (refusal_of (write_refusal vs room))) (Ok (length (encode_all vs)))) (Ok n) → n ≤ room
    go true t e = absurd (cc)
    go false t e =
        let long : length (encode_all vs) ≡ n = cc in
        omega (arith, (accepted vs room (omega (arith, ltb-false 0 (write_refusal vs room) t))).1)

-- bytes from the front of the memory behind a place are bytes from the place on
pub part_laid : (bytes out : List ℕ) (at : ℕ) → at + length bytes ≤ length out → put_mid at (length out - at) out (stored bytes (mid_of at (length out - at) out)) ≡ sets out at bytes
part_laid bytes out at h =
    let rest : List ℕ = drop at out in
    let long : length rest ≡ length out - at = length-drop at out in
    rw (take_all (length out - at) rest (omega arith), stored_front bytes rest (omega arith), drop_of_length-le rest {i = length out - at} (omega arith), append-nil (bytes ++ drop (length bytes) rest), sets-eq bytes out at h, drop-drop (length bytes) at out)
    (sym (append_assoc (take at out) bytes (drop (at + length bytes) out)))

-- what the writer's answer says
module _ (vs : List ℕ) (room : ℕ) {r : Written} (is : r ≡ written_of vs room) where
  pub used_says : {n : ℕ} → r ≡ Ok n → (write_refusal vs room ≡ 0) × (n ≡ length (encode_all vs))
  unfolding written_of pick
  used_says {n} e = go (ltb 0 (write_refusal vs room)) refl (sym e ∙ is)
    where
      go :
          (t : Bool) → ltb 0 (write_refusal vs room) ≡ t → Ok n ≡ pick t (Err (refusal_of (write_refusal vs room))) (Ok (length (encode_all vs))) →
          (write_refusal vs room ≡ 0) × (n ≡ length (encode_all vs))
      go true t q = absurd (cc)
      go false t q = (omega (arith, ltb-false 0 (write_refusal vs room) t), cc)

  pub refused_says : {why : Refusal} → r ≡ Err why → (write_refusal vs room ≡ refusal_number why) × (0 < refusal_number why)
  unfolding written_of pick
  refused_says {why} e = go (ltb 0 (write_refusal vs room)) refl (sym e ∙ is)
    where
      go :
          (t : Bool) → ltb 0 (write_refusal vs room) ≡ t → Err why ≡ pick t (Err (refusal_of (write_refusal vs room))) (Ok (length (encode_all vs))) →
          (write_refusal vs room ≡ refusal_number why) × (0 < refusal_number why)
      go true t q = let same : refusal_of (write_refusal vs room) ≡ why = cc in (sym (number_of vs room t) ∙ ap refusal_number same, some_number why)
      go false t q = absurd (cc)
