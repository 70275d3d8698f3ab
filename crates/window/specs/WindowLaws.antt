-- Laws about the window: what is not short, the loop that moves bytes to the front, and what a read behind them leaves.
use Rattle.std.specs.Prelude.{◌≡◌, refl, Bool, true, false, ◌⊎◌, List, ◌++◌, ℕ, suc, ◌+◌, ◌-◌, ◌≤◌, ◌<◌, length, get_or, set, take, drop}
use Rattle.std.proofs.Common.{sym, ap, ◌∙◌, inl, inr, arith, ltb-false, length-drop, length-take, take-append-drop, length-take-le, get_or-append-add, get_or-drop, take-add, take-take, drop_at}
use borrow.Rule.Slice.PartMut.{mid_of, post_of, put_mid, same_len_mid, take_put}
use Rattle.std.proofs.Math.Seq.{paste, paste-zero, paste-suc, length_paste_head}
use Rattle.std.proofs.lemmas.List.Edits.{length-paste, take-paste}
use Rattle.std.proofs.lemmas.List.{drop-take, take-append-le}
use Rattle.window.specs.declared.Filled.{Filled}
use Rattle.window.specs.Window.{is_short, Refilled}

-- what is not short is as much as wanted, or the file has ended
pub enough : (from to : ℕ) (more : Bool) (wanted : ℕ) → is_short from to more wanted ≡ false → (wanted ≤ to - from) ⊎ (more ≡ false)
unfolding is_short
enough from to true wanted h = inl (ltb-false (to - from) wanted h)
enough from to false wanted h = inr refl

-- what is short may go on
pub short_goes_on : (from to : ℕ) (more : Bool) (wanted : ℕ) → is_short from to more wanted ≡ true → more ≡ true
unfolding is_short
short_goes_on from to true wanted h = refl
short_goes_on from to false wanted h = h

-- a byte behind those that moved is as it was
past_paste : (d s : List ℕ) (n i : ℕ) → n ≤ length s → n ≤ i → get_or (paste d 0 s n) i 0 ≡ get_or d i 0
past_paste d s n i h k =
    let front : List ℕ = take 0 d ++ take n s in
    let e : i ≡ length front + (i - n) = omega (arith, length_paste_head d 0 s n (omega arith) h) in
    let f : (0 + n) + (i - n) ≡ i = omega arith in
    ap (λ (j : ℕ). get_or (paste d 0 s n) j 0) e
    ∙ (get_or-append-add front (drop (0 + n) d) (i - n) 0
    ∙ (get_or-drop (0 + n) d (i - n) 0 ∙ ap (λ (j : ℕ). get_or d j 0) f))

module _ (was : List ℕ) (from to : ℕ) where
  -- a loop that moves bytes to the front one by one: those up to i have moved
  pub record Moving (i : ℕ) (window : List ℕ) : Type 0 where
    pub begun : from ≤ i
    pub within : i ≤ to
    pub fits : to ≤ length was
    pub moved : window ≡ paste was 0 (drop from was) (i - from)

  pub moving_starts : from ≤ to → to ≤ length was → Moving from was
  moving_starts h k = record {
    begun = omega arith;
    within = h;
    fits = k;
    moved = (let e : from - from ≡ 0 = omega arith in rw e (paste-zero was 0 (drop from was)));
  }

  module _ (i : ℕ) (window : List ℕ) (m : Moving i window) where
    pub moving_long : length window ≡ length was
    moving_long =
        rw m.moved
        (length-paste was 0 (drop from was) (i - from) (omega (arith, m.begun, m.within, m.fits))
        (rw length-drop (omega (arith, m.begun, m.within, m.fits))))

    pub moving_goes_on : i < to → Moving (i + 1) (set window (i - from) (get_or window i 0))
    moving_goes_on h =
        let j : ℕ = i - from in
        let s : List ℕ = drop from was in
        let long : i - from ≤ length s = rw length-drop (omega (arith, m.begun, m.within, m.fits)) in
        let short : i - from < length s = rw length-drop (omega (arith, m.begun, m.within, m.fits)) in
        let byte : get_or window i 0 ≡ get_or s j 0 =
        rw m.moved
        (past_paste was s j i long (omega arith)
        ∙ (let e : i ≡ from + (i - from) = omega (arith, m.begun) in ap (λ (k : ℕ). get_or was k 0) e ∙ sym (get_or-drop from was (i - from) 0))) in
        let n : (i + 1) - from ≡ suc (i - from) = omega (arith, m.begun) in
        let z : 0 + (i - from) ≡ i - from = omega arith in
        let next = paste-suc was 0 s (i - from) 0 (omega (arith, m.begun, m.within, m.fits)) short in
        record {
          begun = omega (arith, m.begun);
          within = omega arith;
          fits = m.fits;
          moved = rw (byte, m.moved, n) (ap (λ (k : ℕ). set (paste was 0 s (i - from)) k (get_or s (i - from) 0)) (sym z) ∙ next);
        }

    pub moving_ends : to ≤ i → window ≡ paste was 0 (drop from was) (to - from)
    moving_ends h = let e : i ≡ to = omega (arith, m.within) in rw e at m.moved

-- a read into the part behind the bytes that are not used yet: k bytes of room, which ys take
module _ (was mid ys : List ℕ) (from to base k : ℕ) (h : from ≤ to) (fits : to ≤ length was) (moved : mid ≡ paste was 0 (drop from was) (to - from))
    (room : length ys ≡ length (mid_of (to - from) k mid)) where
  abbrev window : List ℕ
  window = put_mid (to - from) k mid ys

  part : to - from ≤ length (drop from was)
  part = rw length-drop (omega arith)

  mid_long : length mid ≡ length was
  mid_long = rw moved (length-paste was 0 (drop from was) (to - from) (omega arith) part)

  pub refilled :
      (n j : ℕ) (r : Filled) → n ≤ length (mid_of (to - from) j window) → r.to ≡ to - from + n → r.base ≡ base + from →
      (r.more ≡ false → n ≡ 0) → Refilled was from to base window r
  refilled n j r few is first none = record {
    long = same_len_mid (to - from) k mid ys room ∙ mid_long;
    kept = take_put (to - from) k mid ys (omega (arith, mid_long)) ∙ front;
    least = omega (arith, is);
    most = omega (arith, is, few, length-take j (drop (to - from) window), length-drop (to - from) window, same_len_mid (to - from) k mid ys room, mid_long);
    place = first;
    nothing = λ h. omega (arith, is, none h);
  }
    where
      front : take (to - from) mid ≡ take (to - from) (drop from was)
      front =
          let z : to - from ≡ 0 + (to - from) = omega arith in
          rw moved (ap (λ (i : ℕ). take i (paste was 0 (drop from was) (to - from))) z ∙ take-paste was 0 (drop from was) (to - from) (omega arith) part)

-- the bytes at hand after a read: those that were not used yet, then what was read
pub read_behind :
    {was window : List ℕ} {from to base : ℕ} {r : Filled} → from ≤ to → to ≤ length was → Refilled was from to base window r →
    take r.to window ≡ drop from (take to was) ++ drop (to - from) (take r.to window)
read_behind {was} {window} {from} {to} {base} {r} h k f =
    let e : to ≡ from + (to - from) = omega arith in
    let unused : drop from (take to was) ≡ take (to - from) (drop from was)
    = ap (λ (n : ℕ). drop from (take n was)) e
    ∙ ap (drop from) (take-add from (to - from) was)
    ∙ drop_at (take from was) (take (to - from) (drop from was)) from (length-take-le from was (omega arith)) in
    sym (take-append-drop (to - from) (take r.to window))
    ∙ ap (λ (l : List ℕ). l ++ drop (to - from) (take r.to window)) (take-take (to - from) r.to window f.least ∙ f.kept ∙ sym unused)

-- behind the bytes that were not used yet stand the first n that a read put there
pub read_next : (mid ys : List ℕ) (left k n : ℕ) → left ≤ length mid → n ≤ length ys → drop left (take (left + n) (put_mid left k mid ys)) ≡ take n ys
read_next mid ys left k n h few =
    drop-take left n (put_mid left k mid ys)
    ∙ ap (take n) (drop_at (take left mid) (ys ++ post_of left k mid) left (length-take-le left mid h))
    ∙ take-append-le n ys (post_of left k mid) few
