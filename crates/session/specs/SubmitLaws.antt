-- The cases of submit.
use Rattle.std.specs.Prelude.{◌≡◌, refl, true, false, List, ℕ, ◌+◌, ◌*◌, ◌≤◌, ◌<◌, leb, ltb, length}
use Rattle.std.proofs.Common.{arith}
use borrow.Author.Tests.{lt-ltb, le-ltb, le-leb, lt-leb, eqb-true, leb-true, leb-false, ltb-false}
use Rattle.units.specs.Units.{tenants}
use Rattle.units.specs.Tests.{◌and◌, is_not, pick, and_true, not_holds, not_false}
use Rattle.units.specs.CaseLaws.{given_none}
use Rattle.units.specs.Firsts.{first_to, first_before}
use Rattle.entry.specs.Entry.{malformed}
use Rattle.entry.specs.Numbers.{entry_numbers, bulk, from1to}
use Rattle.lanes.specs.declared.Lanes.{Lanes}
use Rattle.lanes.specs.Ring.{depth, entry_at, len_of, put_all, joined}
use Rattle.lanes.specs.Bulk.{well_counted, some_malformed}
use Rattle.lanes.specs.BulkLaws.{bad_at}
use Rattle.session.specs.declared.Session.{Session}
use Rattle.session.specs.Market.{Market, market_of, with_lanes}
use Rattle.session.specs.Submit.{submit_cases, submit_refusal, submit_of}

-- which number is given, by what each test says
module _ (s : Session) (tenant count : ℕ) (ns : List ℕ) where
  pub refused_21 : s.accepted ≡ false → 21 ≡ submit_refusal s tenant count ns
  unfolding submit_refusal pick is_not
  refused_21 h = rw h

  module _ (set : s.accepted ≡ true) where
    pub refused_1 : tenants ≤ tenant → 1 ≡ submit_refusal s tenant count ns
    unfolding submit_refusal pick is_not
    refused_1 h = rw (set, le-leb tenants tenant h)

    module _ (lane : tenant < tenants) where
      pub refused_3 : well_counted count ns ≡ false → 3 ≡ submit_refusal s tenant count ns
      unfolding submit_refusal pick is_not
      refused_3 h = rw (set, lt-leb tenants tenant lane, h)

      module _ (well : well_counted count ns ≡ true) where
        pub refused_2 : some_malformed count ns ≡ true → 2 ≡ submit_refusal s tenant count ns
        unfolding submit_refusal pick is_not
        refused_2 h = rw (set, lt-leb tenants tenant lane, well, h)

        module _ (formed : some_malformed count ns ≡ false) where
          pub refused_4 : ltb depth (len_of s.lanes tenant + count) ≡ true → 4 ≡ submit_refusal s tenant count ns
          unfolding submit_refusal pick is_not
          refused_4 h = rw (set, lt-leb tenants tenant lane, well, formed, h)

          pub not_refused : ltb depth (len_of s.lanes tenant + count) ≡ false → 0 ≡ submit_refusal s tenant count ns
          unfolding submit_refusal pick is_not
          not_refused h = rw (set, lt-leb tenants tenant lane, well, formed, h)

-- what holds of a bulk that is not refused
pub record Joins (s : Session) (tenant count : ℕ) (ns : List ℕ) : Type 0 where
  pub set : s.accepted ≡ true
  pub lane : tenant < tenants
  pub given : length ns ≡ entry_numbers * count
  pub few : count ≤ bulk
  pub formed : (j : ℕ) → j < count → malformed (entry_at ns j) ≡ false
  pub room : len_of s.lanes tenant + count ≤ depth

well_given : (count : ℕ) (ns : List ℕ) → well_counted count ns ≡ true → (length ns ≡ entry_numbers * count) × (count ≤ bulk)
unfolding well_counted from1to
well_given count ns h =
    let two = and_true (leb 1 count and leb count bulk) _ h in
    (eqb-true _ _ two.1, leb-true _ _ (and_true (leb 1 count) _ two.0).1)

well_formed : (count : ℕ) (ns : List ℕ) → some_malformed count ns ≡ false → (j : ℕ) → j < count → malformed (entry_at ns j) ≡ false
unfolding some_malformed
well_formed count ns h j l = first_before (bad_at ns) count j (omega (arith, ltb-false (first_to (bad_at ns) count) count h))

pub joins : (s : Session) (tenant count : ℕ) (ns : List ℕ) → submit_refusal s tenant count ns ≡ 0 → Joins s tenant count ns
unfolding submit_refusal
joins s tenant count ns e =
    let n0 = and_true (is_not (is_not s.accepted)) _ ((given_none 0 (submit_cases s tenant count ns) refl).0 e) in
    let n1 = and_true (is_not (leb tenants tenant)) _ n0.1 in
    let n2 = and_true (is_not (is_not (well_counted count ns))) _ n1.1 in
    let n3 = and_true (is_not (some_malformed count ns)) _ n2.1 in
    let n4 = and_true (is_not (ltb depth (len_of s.lanes tenant + count))) _ n3.1 in
    let well = well_given count ns (not_false _ (not_holds _ n2.0)) in
    record {
      set = not_false _ (not_holds _ n0.0);
      lane = leb-false _ _ (not_holds _ n1.0);
      given = well.0;
      few = well.1;
      formed = well_formed count ns (not_holds _ n3.0);
      room = ltb-false _ _ (not_holds _ n4.0);
    }

-- the answer and the market, refused or not
module _ (m : Market) (tenant count : ℕ) (ns : List ℕ) (code : ℕ) (is : code ≡ submit_refusal m.session tenant count ns) where
  pub submit_refused : 0 < code → record { market = m; code = code } ≡ submit_of m tenant count ns
  unfolding submit_of pick
  submit_refused h = rw (← is, lt-ltb 0 code h)

  pub submit_accepted :
      (lanes : Lanes) (entries : List ℕ) → code ≤ 0 → lanes ≡ joined m.session.lanes tenant count →
      entries ≡ put_all m.session.lanes m.entries tenant ns count →
      record { market = market_of (with_lanes m.session lanes) m.book entries; code = 0 } ≡ submit_of m tenant count ns
  unfolding submit_of pick
  submit_accepted lanes entries h e f = rw (e, f, ← is, le-ltb 0 code h)
