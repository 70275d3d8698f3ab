-- The minimum amount by the NBB, both in cents.
use Rattle.std.specs.Prelude.{ℕ, cond, leb, ltb}

-- below 200: 25; 200 to 500: 40; 501 to 1,000: 50; 1,001 to 2,000: 80; 2,001 to 5,000: 100; 5,001 to 10,000: 150; above
-- 10,000: 200
unfoldable pub minimum_amount : ℕ → ℕ
minimum_amount nbb =
    cond (ltb nbb 200) 25
    (cond (leb nbb 500) 40
    (cond (leb nbb 1000) 50
    (cond (leb nbb 2000) 80
    (cond (leb nbb 5000) 100
    (cond (leb nbb 10000) 150 200)))))
