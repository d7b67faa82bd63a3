-- What draws give, one after another.
use Rattle.std.proofs.Common.{◌≡◌, ℕ, suc, ◌+◌, ◌*◌, ◌/◌, ◌<◌, ◌^◌, refl, ap, ◌∙◌, arith}
use Rattle.ctw_gen.specs.Draws.{stepped, state, draw}
use Rattle.ctw_gen.specs.Workload.{made, numbered}

-- a draw from the state behind n steps
record Drawn (seed n next result : ℕ) : Type 0 where
  stepped_on : next ≡ state seed (n + 1)
  drawn : result ≡ draw seed n

drawn_at : (seed n x next result : ℕ) → x ≡ state seed n → next ≡ stepped x → result ≡ next / 65536 → Drawn seed n next result
unfolding state draw
drawn_at seed n x next result e s d =
    let at : next ≡ state seed (suc n) = s ∙ ap stepped e in
    let on : suc n ≡ n + 1 = omega arith in
    record { stepped_on = at ∙ ap (state seed) on; drawn = d ∙ ap (λ (k : ℕ). k / 65536) at }

pub record ThreeDrawn (seed k last a c b : ℕ) : Type 0 where
  pub stepped_on : last ≡ state seed (3 * (k + 1))
  pub made_is : made a c b ≡ numbered seed k

pub three_drawn : (seed k x one two three a c b : ℕ) → x ≡ state seed (3 * k) → one ≡ stepped x → a ≡ one / 65536 → two ≡ stepped one → c ≡ two / 65536 → three ≡ stepped two → b ≡ three / 65536
    → ThreeDrawn seed k three a c b
three_drawn seed k x one two three a c b e s1 d1 s2 d2 s3 d3 =
    let h1 = drawn_at seed (3 * k) x one a e s1 d1 in
    let h2 = drawn_at seed (3 * k + 1) one two c h1.stepped_on s2 d2 in
    let h3 = drawn_at seed (3 * k + 1 + 1) two three b h2.stepped_on s3 d3 in
    let third : 3 * k + 1 + 1 ≡ 3 * k + 2 = omega arith in
    let all : 3 * k + 1 + 1 + 1 ≡ 3 * (k + 1) = omega arith in
    record {
      stepped_on = h3.stepped_on ∙ ap (state seed) all;
      made_is =
          ap (λ (n : ℕ). made n c b) h1.drawn ∙ ap (λ (n : ℕ). made (draw seed (3 * k)) n b) h2.drawn
          ∙ ap (made (draw seed (3 * k)) (draw seed (3 * k + 1))) (h3.drawn ∙ ap (draw seed) third);
    }

pub begun : (seed : ℕ) → seed ≡ state seed (3 * 0)
unfolding state
begun seed = refl

-- draws are small
pub draw_small : (seed i : ℕ) → draw seed i < 2 ^ 15
unfolding state draw
draw_small seed i = omega arith

-- ---- the vault

pub vault_step : (seed n i x next result : ℕ) → x ≡ state seed (n + i) → next ≡ stepped x → result ≡ next / 65536 → (next ≡ state seed (n + (i + 1))) × (result ≡ draw seed (n + i))
vault_step seed n i x next result e s d =
    let h = drawn_at seed (n + i) x next result e s d in
    let on : n + i + 1 ≡ n + (i + 1) = omega arith in
    (h.stepped_on ∙ ap (state seed) on, h.drawn)
