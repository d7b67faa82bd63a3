-- What is made of lines one after another is what they ask for.
use Rattle.std.proofs.Common.{◌≡◌, ℕ, ◌+◌, ◌<◌, ◌≤◌, ◌==◌, ◌||◌, ◌&&◌, ◌↔◌, ◌⊎◌, inl, inr, Bool, true, false, List, [], ◌∷◌, ◌++◌, Option, Some, None, All, length, map, nat_lt, refl, sym, ap, subst, ◌∙◌, arith, append_assoc}
use Rattle.std.specs.Prelude.{Contains}
use Rattle.std.specs.List.{AllZip, AllByRecursion}
use Rattle.std.proofs.lemmas.List.{append-nil}
use Rattle.std.proofs.lemmas.List.Elements.{All-nil, All-cons, Contains-append_left, Contains-append_right, Contains-append_cases, Contains-push, Contains-push_cases}
use Rattle.std.proofs.lemmas.Bool.{false≢true, eqb-true}
use Rattle.std.proofs.lemmas.Bool.Decides.{nat_tests}
use Rattle.ctw_ops.specs.declared.types.Label.{Label}
use Rattle.ctw_ops.specs.Tree.{Module, function_entries}
use Rattle.ctw_lex.specs.Lexeme.{Lexeme}
use Rattle.ctw_lex.specs.Answers.{HasTokens}
use Rattle.ctw_lex.specs.Answers as lex
use Rattle.ctw_lex.specs.declared.LexPlace.{LexPlace}
use Rattle.ctw_lex.proofs.Facts.{some_same, none_some, either_true, both_true}
use Rattle.ctw_script.specs.LineValues.{first_line}
use Rattle.ctw_script.specs.Scripts.{before_lines, lines_of}
use Rattle.ctw_script.proofs.Facts.{tested_found, lt_true, true_lt}
use Rattle.ctw_labels.specs.declared.name.SiteName.{SiteName}
use Rattle.ctw_labels.specs.declared.name.SiteName.TheVariants.{Push}
use Rattle.ctw_labels.specs.Points.{Points, Release, has_number, has_release, is_released, AreReleases}
use Rattle.ctw_labels.proofs.NumberLaws.{all_append_from}
use Rattle.ctw_marks.specs.declared.entry.Entry.{Entry}
use Rattle.ctw_marks.specs.declared.order.Subject.{Subject}
use Rattle.ctw_marks.specs.declared.order.Spot.{Spot}
use Rattle.ctw_marks.specs.declared.order.Order.{Order}
use Rattle.ctw_marks.specs.declared.order.Order.TheVariants as order
use Rattle.ctw_marks.specs.declared.fault.MarkFault.{MarkFault}
use Rattle.ctw_marks.specs.declared.fault.MarkFault.TheVariants as fault
use Rattle.ctw_marks.specs.Entries.{line_entry}
use Rattle.ctw_marks.specs.Grammar.{IsOrder}
use Rattle.ctw_marks.specs.Meaning.{function_of, HasSite, IsFunction, IsPush, IsPlaced, IsTrusted, IsCovered, labels_of, named_label, spot_name, IsAt}
use Rattle.ctw_marks.specs.Orders.{order_of}
use Rattle.ctw_marks.specs.Places.{trusted_function}
use Rattle.ctw_marks.specs.Pushed.{is_some_number}
use Rattle.ctw_marks.specs.Readings.{MarkList, IsGood, all_labels, IsReleased, IsReading, AreSame, HasReading, IsUnread, IsUnplaced, IsUncovered, HasBadLine, HasFault}
use Rattle.ctw_marks.specs.Taken.{trusts, trusts_in, IsAmong, are_numbers, releases, Takes, IsBad, TakesAll, StopsIn, TakesRelease, IsBadRelease}
use Rattle.ctw_marks.proofs.LineLaws.{order_told, order_spelled, order_once, order_unread}

-- ---- elements of lists

in_front : {A : Type 0} (x : A) (xs : List A) → Contains (x ∷ xs) x
in_front x xs = Contains-append_left (x ∷ []) xs x (Contains-push [] x)

behind : {A : Type 0} (y x : A) (xs : List A) → Contains xs x → Contains (y ∷ xs) x
behind y x xs h = Contains-append_right (y ∷ []) xs x h

front_or : {A : Type 0} (y x : A) (xs : List A) → Contains (y ∷ xs) x → (y ≡ x) ⊎ Contains xs x
front_or {A} y x xs h = go (Contains-append_cases (y ∷ []) xs x h)
  where
    one : Contains [] x ⊎ (y ≡ x) → y ≡ x
    one (inl e) = absurd (omega (arith, e.1))
    one (inr e) = e

    go : Contains (y ∷ []) x ⊎ Contains xs x → (y ≡ x) ⊎ Contains xs x
    go (inl e) = inl (one (Contains-push_cases [] y x e))
    go (inr e) = inr e

-- ---- tests

or_turn : (a b c : Bool) → (b || (a || c)) ≡ ((a || b) || c)
or_turn true true c = refl
or_turn true false c = refl
or_turn false true c = refl
or_turn false false c = refl

or_right : (a b : Bool) → b ≡ true → (a || b) ≡ true
or_right true b e = refl
or_right false b e = e

or_left : (a b : Bool) → a ≡ true → (a || b) ≡ true
or_left a b e = rw e refl

or_none : (a : Bool) → (a || false) ≡ a
or_none true = refl
or_none false = refl

same_test : (a b : Bool) {P : Type 0} → (a ≡ true) ↔ P → (b ≡ true) ↔ P → a ≡ b
same_test true true f g = refl
same_test true false f g = sym (g.1 (f.0 refl))
same_test false true f g = f.1 (g.0 refl)
same_test false false f g = refl

eqb_self : (n : ℕ) → (n == n) ≡ true
eqb_self n = grind (arith, nat_tests)

number_found : (g : ℕ) (o : Option ℕ) → is_some_number g o ≡ true → o ≡ Some g
number_found g None e = absurd (false≢true e)
number_found g (Some n) e = ap (λ z. Some z) (eqb-true n g e)

number_there : (g : ℕ) (o : Option ℕ) → o ≡ Some g → is_some_number g o ≡ true
number_there g o e = rw e (eqb_self g)

numbers_found : (g k : ℕ) (a b : Option ℕ) → are_numbers g k a b ≡ true → (a ≡ Some g) × (b ≡ Some k)
numbers_found g k None b e = absurd (false≢true e)
numbers_found g k (Some f) None e = absurd (false≢true e)
numbers_found g k (Some f) (Some n) e =
    let h = both_true (f == g) (n == k) e in
    (ap (λ z. Some z) (eqb-true f g h.0), ap (λ z. Some z) (eqb-true n k h.1))

numbers_there : (g k : ℕ) (a b : Option ℕ) → a ≡ Some g → b ≡ Some k → are_numbers g k a b ≡ true
numbers_there g k a b e f = rw (e, f, eqb_self g, eqb_self k) refl

-- ---- trust

module _ (m : Module Label) where
  pub function_found : (s : Subject) (f : ℕ) → trusted_function m s ≡ Some f → IsFunction m s f
  function_found s f e =
      let h = tested_found (λ n. nat_lt n (length (function_entries m))) (function_of m s) f e in
      (h.0, true_lt f (length (function_entries m)) h.1)

  pub function_there : (s : Subject) (f : ℕ) → IsFunction m s f → trusted_function m s ≡ Some f
  function_there s f h = rw (h.0, lt_true f (length (function_entries m)) h.1) refl

  trust_found : (line : List Lexeme) (g : ℕ) (o : Option Order) → order_of line ≡ o → trusts m o g ≡ true → (s : Subject) × IsOrder line (order.Trust s) × IsFunction m s g
  trust_found line g None e h = absurd (false≢true h)
  trust_found line g (Some (order.Label l s)) e h = absurd (false≢true h)
  trust_found line g (Some (order.Release s at)) e h = absurd (false≢true h)
  trust_found line g (Some (order.Trust s)) e h = (s, order_spelled line (order.Trust s) e, function_found s g (number_found g (trusted_function m s) h))

  trusted_found : (lines : List (List Lexeme)) (g : ℕ) → trusts_in m (map line_entry lines) g ≡ true → IsTrusted m lines g
  trusted_found [] g h = absurd (false≢true h)
  trusted_found (line ∷ lines) g h = go (λ e. trusted_found lines g e) (either_true (trusts m (order_of line) g) (trusts_in m (map line_entry lines) g) h)
    where
      go : (trusts_in m (map line_entry lines) g ≡ true → IsTrusted m lines g) → (trusts m (order_of line) g ≡ true) ⊎ (trusts_in m (map line_entry lines) g ≡ true) → IsTrusted m (line ∷ lines) g
      go more (inl e) = let r = trust_found line g (order_of line) refl e in (line, in_front line lines, r.0, r.1, r.2)
      go more (inr e) = let r = more e in (r.0, behind line r.0 lines r.1, r.2, r.3, r.4)

  trusted_there : (lines : List (List Lexeme)) (g : ℕ) → IsTrusted m lines g → trusts_in m (map line_entry lines) g ≡ true
  trusted_there [] g h = absurd (omega (arith, h.1.1))
  trusted_there (line ∷ lines) g h = go (λ w. trusted_there lines g w) (front_or line h.0 lines h.1)
    where
      go : (IsTrusted m lines g → trusts_in m (map line_entry lines) g ≡ true) → (line ≡ h.0) ⊎ Contains lines h.0 → trusts_in m (map line_entry (line ∷ lines)) g ≡ true
      go more (inl e) =
          let o : order_of line ≡ Some (order.Trust h.2) = ap order_of e ∙ order_told h.3 in
          or_left (trusts m (order_of line) g) (trusts_in m (map line_entry lines) g) (ap (λ z. trusts m z g) o ∙ number_there g (trusted_function m h.2) (function_there h.2 g h.4))
      go more (inr e) = or_right (trusts m (order_of line) g) (trusts_in m (map line_entry lines) g) (more (h.0, e, h.2, h.3, h.4))

  -- ---- all lines

  abbrev pub IsAsked : List ℕ → List Lexeme → Order → Type 0
  IsAsked T line o = IsOrder line o × IsPlaced m o × IsCovered m (λ f. has_number f T ≡ true) o

  abbrev pub releases_in : List Order → ℕ → ℕ → Bool
  releases_in [] g k = false
  releases_in (o ∷ os) g k = releases m o g k || releases_in os g k

  pub record IsRead (T : List ℕ) (lines : List (List Lexeme)) (a b : MarkList) : Type 0 where
    pub orders : List Order
    pub read : AllZip (IsAsked T) lines orders
    pub labels : b.labels ≡ a.labels ++ all_labels m orders
    pub trusted : b.points.trusted ≡ a.points.trusted
    pub released : (g k : ℕ) → is_released b.points g k ≡ (releases_in orders g k || is_released a.points g k)

  pub all_read : (T : List ℕ) (lines : List (List Lexeme)) (a b : MarkList) → a.points.trusted ≡ T → TakesAll m (map line_entry lines) a b → IsRead T lines a b
  all_read T [] a b e h = record {
    orders = [];
    read = tt;
    labels = ap (λ z. z.labels) (sym h) ∙ sym (append-nil a.labels);
    trusted = ap (λ (z : MarkList). z.points.trusted) (sym h);
    released = λ g k. ap (λ (z : MarkList). is_released z.points g k) (sym h);
  }
  all_read T (line ∷ lines) a b e h =
      let c : MarkList = h.0 in
      let t : Takes m (order_of line) a c = h.1 in
      let r = all_read T lines c b (t.trusted ∙ e) h.2 in
      record {
        orders = t.order ∷ r.orders;
        read = ((order_spelled line t.order t.read, t.placed, subst (λ z. IsCovered m (λ f. has_number f z ≡ true) t.order) e t.covered), r.read);
        labels = r.labels ∙ ap (λ z. z ++ all_labels m r.orders) t.labels ∙ append_assoc a.labels (labels_of m t.order) (all_labels m r.orders);
        trusted = r.trusted ∙ t.trusted;
        released = λ g k. r.released g k ∙ ap (λ z. releases_in r.orders g k || z) (t.released g k) ∙ or_turn (releases m t.order g k) (releases_in r.orders g k) (is_released a.points g k);
      }

  -- ---- releases

  release_found : (o : Order) (g k : ℕ) → IsPlaced m o → releases m o g k ≡ true → (s : Subject) × (at : Option ℕ) × (o ≡ order.Release s at) × IsPush m s at g k
  release_found (order.Label l s) g k p e = absurd (false≢true e)
  release_found (order.Trust s) g k p e = absurd (false≢true e)
  release_found (order.Release s at) g k p e =
      let n = numbers_found g k (function_of m s) at e in
      let f : p.0 ≡ g = some_same (sym p.2.0 ∙ n.0) in
      let j : p.1 ≡ k = some_same (sym p.2.1 ∙ n.1) in
      (s, at, refl, (n.0, n.1, subst (λ z. HasSite m (Push z k)) f (subst (λ z. HasSite m (Push p.0 z)) j p.2.2)))

  released_found : (T : List ℕ) (lines : List (List Lexeme)) (orders : List Order) (g k : ℕ) → AllZip (IsAsked T) lines orders → releases_in orders g k ≡ true → IsReleased m orders g k
  released_found T lines [] g k h e = absurd (false≢true e)
  released_found T [] (o ∷ os) g k h e = absurd h
  released_found T (line ∷ lines) (o ∷ os) g k h e = go (λ q. released_found T lines os g k h.1 q) (either_true (releases m o g k) (releases_in os g k) e)
    where
      go : (releases_in os g k ≡ true → IsReleased m os g k) → (releases m o g k ≡ true) ⊎ (releases_in os g k ≡ true) → IsReleased m (o ∷ os) g k
      go more (inl q) = let r = release_found o g k h.0.1 q in (r.0, r.1, subst (λ z. Contains (o ∷ os) z) r.2 (in_front o os), r.3)
      go more (inr q) = let r = more q in (r.0, r.1, behind o (order.Release r.0 r.1) os r.2, r.3)

  released_there : (orders : List Order) (g k : ℕ) → IsReleased m orders g k → releases_in orders g k ≡ true
  released_there [] g k h = absurd (omega (arith, h.2.1))
  released_there (o ∷ os) g k h = go (λ w. released_there os g k w) (front_or o (order.Release h.0 h.1) os h.2)
    where
      go : (IsReleased m os g k → releases_in os g k ≡ true) → (o ≡ order.Release h.0 h.1) ⊎ Contains os (order.Release h.0 h.1) → releases_in (o ∷ os) g k ≡ true
      go more (inl e) = or_left (releases m o g k) (releases_in os g k) (ap (λ z. releases m z g k) e ∙ numbers_there g k (function_of m h.0) h.1 h.3.0 h.3.1)
      go more (inr e) = or_right (releases m o g k) (releases_in os g k) (more (h.0, h.1, e, h.3))

  -- ---- readings

  good_of : (T : List ℕ) (lines : List (List Lexeme)) → ((f : ℕ) → has_number f T ≡ trusts_in m (map line_entry lines) f) → (line : List Lexeme) (o : Order) → IsAsked T line o → IsGood m lines line o
  good_of T lines t line (order.Label l s) h = record { read = h.0; placed = h.1; covered = tt }
  good_of T lines t line (order.Trust s) h = record { read = h.0; placed = h.1; covered = tt }
  good_of T lines t line (order.Release s at) h = record { read = h.0; placed = h.1; covered = (h.2.0, h.2.1, trusted_found lines h.2.0 (sym (t h.2.0) ∙ h.2.2)) }

  covered_there : (T : List ℕ) (lines : List (List Lexeme)) → ((f : ℕ) → has_number f T ≡ trusts_in m (map line_entry lines) f) → (o : Order) → IsCovered m (IsTrusted m lines) o → IsCovered m (λ f. has_number f T ≡ true) o
  covered_there T lines t (order.Label l s) h = tt
  covered_there T lines t (order.Trust s) h = tt
  covered_there T lines t (order.Release s at) h = (h.0, h.1, t h.0 ∙ trusted_there lines h.0 h.2)

  zip_map : {A B : Type 0} {P Q : A → B → Type 0} → ((x : A) (y : B) → P x y → Q x y) → (xs : List A) (ys : List B) → AllZip P xs ys → AllZip Q xs ys
  zip_map f [] [] h = h
  zip_map f [] (y ∷ ys) h = absurd h
  zip_map f (x ∷ xs) [] h = absurd h
  zip_map f (x ∷ xs) (y ∷ ys) h = (f x y h.0, zip_map f xs ys h.1)

  orders_once : (all lines : List (List Lexeme)) (a b : List Order) → AllZip (IsGood m all) lines a → AllZip (IsGood m all) lines b → a ≡ b
  orders_once all [] [] [] h k = refl
  orders_once all [] [] (y ∷ ys) h k = absurd k
  orders_once all [] (x ∷ xs) b h k = absurd h
  orders_once all (l ∷ ls) [] b h k = absurd h
  orders_once all (l ∷ ls) (x ∷ xs) [] h k = absurd k
  orders_once all (l ∷ ls) (x ∷ xs) (y ∷ ys) h k =
      let e = order_once l x y h.0.read k.0.read in let f = orders_once all ls xs ys h.1 k.1 in λ i. e i ∷ f i

  pub readings_same : (text : List ℕ) (tokens : List Lexeme) (a b : MarkList) → HasTokens text tokens → IsReading m text a → IsReading m text b → AreSame a b
  readings_same text tokens a b h r s =
      let p = h.only r.tokens r.lexed in
      let q = h.only s.tokens s.lexed in
      let k = subst (λ ts. AllZip (IsGood m (lines_of ts)) (lines_of ts) r.orders) p r.read in
      let l = subst (λ ts. AllZip (IsGood m (lines_of ts)) (lines_of ts) s.orders) q s.read in
      let e = orders_once (lines_of tokens) (lines_of tokens) r.orders s.orders k l in
      record {
        labels = r.labels ∙ ap (all_labels m) e ∙ sym s.labels;
        trusted = λ f. same_test (has_number f a.points.trusted) (has_number f b.points.trusted)
            (subst (λ ts. (has_number f a.points.trusted ≡ true) ↔ IsTrusted m (lines_of ts) f) p (r.trusted f))
            (subst (λ ts. (has_number f b.points.trusted ≡ true) ↔ IsTrusted m (lines_of ts) f) q (s.trusted f));
        released = λ f k. same_test (is_released a.points f k) (is_released b.points f k)
            (subst (λ os. (is_released a.points f k ≡ true) ↔ IsReleased m os f k) e (r.released f k)) (s.released f k);
      }

  pub marks_read : (text : List ℕ) (tokens : List Lexeme) (p : Points) (marks : MarkList) → HasTokens text tokens
      → ((f : ℕ) → has_number f p.trusted ≡ trusts_in m (map line_entry (lines_of tokens)) f) → p.releases ≡ []
      → TakesAll m (map line_entry (lines_of tokens)) (record { labels = []; points = p }) marks → HasReading m text marks
  marks_read text tokens p marks h t none all =
      let lines : List (List Lexeme) = lines_of tokens in
      let r = all_read p.trusted lines (record { labels = []; points = p }) marks refl all in
      let own : IsReading m text marks = record {
        tokens = tokens;
        lexed = h.lists;
        orders = r.orders;
        read = zip_map (good_of p.trusted lines t) lines r.orders r.read;
        labels = r.labels;
        trusted = λ f.
            let e : has_number f marks.points.trusted ≡ trusts_in m (map line_entry lines) f = ap (has_number f) r.trusted ∙ t f in
            ((λ w. trusted_found lines f (sym e ∙ w)), (λ w. e ∙ trusted_there lines f w));
        released = λ f k.
            let e : is_released marks.points f k ≡ releases_in r.orders f k = r.released f k ∙ ap (λ z. releases_in r.orders f k || has_release f k z) none ∙ or_none (releases_in r.orders f k) in
            ((λ w. released_found p.trusted lines r.orders f k r.read (sym e ∙ w)), (λ w. e ∙ released_there r.orders f k w));
      } in
      record { reading = own; only = λ other o. readings_same text tokens other marks h o own }

  -- ---- faults

  record Stopped (T : List ℕ) (lines : List (List Lexeme)) (why : MarkFault) : Type 0 where
    earlier : List (List Lexeme)
    bad : List Lexeme
    later : List (List Lexeme)
    split : lines ≡ earlier ++ bad ∷ later
    good : All (λ ts. (o : Order) × IsAsked T ts o) earlier
    points : MarkList
    same : points.points.trusted ≡ T
    is : IsBad m (line_entry bad) points why

  stopped : (T : List ℕ) (lines : List (List Lexeme)) (a : MarkList) (why : MarkFault) → a.points.trusted ≡ T → StopsIn m (map line_entry lines) a why → Stopped T lines why
  stopped T [] a why e h = absurd h
  stopped T (line ∷ lines) a why e (inl h) = record { earlier = []; bad = line; later = lines; split = refl; good = All-nil (λ ts. (o : Order) × IsAsked T ts o); points = a; same = e; is = h }
  stopped T (line ∷ lines) a why e (inr h) =
      let t : Takes m (order_of line) a h.0 = h.1 in
      let r = stopped T lines h.0 why (t.trusted ∙ e) h.2 in
      let own : (o : Order) × IsAsked T line o = (t.order, (order_spelled line t.order t.read, t.placed, subst (λ z. IsCovered m (λ f. has_number f z ≡ true) t.order) e t.covered)) in
      record {
        earlier = line ∷ r.earlier;
        bad = r.bad;
        later = r.later;
        split = ap (λ z. line ∷ z) r.split;
        good = All-cons (λ ts. (o : Order) × IsAsked T ts o) line r.earlier own r.good;
        points = r.points;
        same = r.same;
        is = r.is;
      }

  abbrev IsFull : List Lexeme → Type 0
  IsFull [] = ⊥
  IsFull (t ∷ ts) = Unit {0}

  before_full : (t : Lexeme) (ls : List (List Lexeme)) → AllByRecursion IsFull ls → AllByRecursion IsFull (before_lines t ls)
  before_full t [] h = (tt, tt)
  before_full t ([] ∷ lines) h = absurd h.0
  before_full t ((u ∷ us) ∷ lines) h = go (t.line == u.line) refl
    where
      go : (b : Bool) → (t.line == u.line) ≡ b → AllByRecursion IsFull (before_lines t ((u ∷ us) ∷ lines))
      go true e = rw e (tt, h.1)
      go false e = rw e (tt, (tt, h.1))

  lines_full : (ts : List Lexeme) → AllByRecursion IsFull (lines_of ts)
  lines_full [] = tt
  lines_full (t ∷ ts) = before_full t (lines_of ts) (lines_full ts)

  full_line : (ts : List Lexeme) → IsFull ts → (first : Lexeme) × (more : List Lexeme) × (ts ≡ first ∷ more)
  full_line [] h = absurd h
  full_line (t ∷ ts) h = (t, ts, refl)

  zip_middle : (all earlier : List (List Lexeme)) (line : List Lexeme) (later : List (List Lexeme)) (orders : List Order) → AllZip (IsGood m all) (earlier ++ line ∷ later) orders → (o : Order) × IsGood m all line o
  zip_middle all [] line later [] h = absurd h
  zip_middle all [] line later (o ∷ os) h = (o, h.0)
  zip_middle all (l ∷ ls) line later [] h = absurd h
  zip_middle all (l ∷ ls) line later (o ∷ os) h = zip_middle all ls line later os h.1

  module _ (text : List ℕ) (tokens : List Lexeme) (h : HasTokens text tokens) (T : List ℕ) (t : (f : ℕ) → has_number f T ≡ trusts_in m (map line_entry (lines_of tokens)) f) where
    bad_line : (why : MarkFault) (r : Stopped T (lines_of tokens) why) (n : ℕ) (worse : List (List Lexeme) → List Lexeme → Type 0) → worse (lines_of tokens) r.bad → first_line r.bad ≡ n → HasBadLine m text n worse
    bad_line why r n worse w e =
        let all : AllByRecursion IsFull (r.earlier ++ r.bad ∷ r.later) = subst (AllByRecursion IsFull) r.split (lines_full tokens) in
        let own = (all_append_from IsFull r.earlier (r.bad ∷ r.later) all).1.0 in
        let f = full_line r.bad own in
        record {
          tokens = tokens;
          lexed = h.lists;
          earlier = r.earlier;
          first = f.0;
          more = f.1;
          later = r.later;
          lines = r.split ∙ ap (λ z. r.earlier ++ z ∷ r.later) f.2;
          number = sym (ap first_line f.2) ∙ e;
          good = λ k d lt. let x = r.good k d lt in (x.0, good_of T (lines_of tokens) t _ x.0 x.1);
          worse = subst (worse (lines_of tokens)) f.2 w;
        }

    middle : (why : MarkFault) (r : Stopped T (lines_of tokens) why) (marks : MarkList) → IsReading m text marks → (o : Order) × IsGood m (lines_of tokens) r.bad o
    middle why r marks o =
        let same = h.only o.tokens o.lexed in
        let zip = subst (λ ts. AllZip (IsGood m (lines_of ts)) (lines_of ts) o.orders) same o.read in
        zip_middle (lines_of tokens) r.earlier r.bad r.later o.orders (subst (λ ls. AllZip (IsGood m (lines_of tokens)) ls o.orders) r.split zip)

    fault_of : (why : MarkFault) → Stopped T (lines_of tokens) why → HasFault m text why
    fault_of (fault.Lex n) r = absurd r.is
    fault_of fault.NoMemory r = record { cause = tt; unread = λ some marks o. some refl }
    fault_of (fault.Line n) r = record {
      cause = bad_line (fault.Line n) r n (λ lines ts. IsUnread ts) (order_unread r.bad r.is.0) r.is.1;
      unread = λ some marks o. let x = middle (fault.Line n) r marks o in order_unread r.bad r.is.0 x.0 x.1.read;
    }
    fault_of (fault.NoPlace n) r =
        let read = order_spelled r.bad r.is.0 r.is.1 in
        record {
          cause = bad_line (fault.NoPlace n) r n (λ lines ts. IsUnplaced m ts) (r.is.0, read, r.is.2) r.is.3;
          unread = λ some marks o.
              let x = middle (fault.NoPlace n) r marks o in
              r.is.2 (subst (IsPlaced m) (order_once r.bad x.0 r.is.0 x.1.read read) x.1.placed);
        }
    fault_of (fault.Untrusted n) r =
        let read = order_spelled r.bad r.is.0 r.is.1 in
        let uncovered : ¬ (IsCovered m (IsTrusted m (lines_of tokens)) r.is.0) = λ w.
        r.is.3 (subst (λ z. IsCovered m (λ f. has_number f z ≡ true) r.is.0) (sym r.same) (covered_there T (lines_of tokens) t r.is.0 w)) in
        record {
          cause = bad_line (fault.Untrusted n) r n (λ lines ts. IsUncovered m lines ts) (r.is.0, read, r.is.2, uncovered) r.is.4;
          unread = λ some marks o.
              let x = middle (fault.Untrusted n) r marks o in
              uncovered (subst (IsCovered m (IsTrusted m (lines_of tokens))) (order_once r.bad x.0 r.is.0 x.1.read read) x.1.covered);
        }

  pub marks_fault : (text : List ℕ) (tokens : List Lexeme) (p : Points) (why : MarkFault) → HasTokens text tokens
      → ((f : ℕ) → has_number f p.trusted ≡ trusts_in m (map line_entry (lines_of tokens)) f)
      → StopsIn m (map line_entry (lines_of tokens)) (record { labels = []; points = p }) why → HasFault m text why
  marks_fault text tokens p why h t s = fault_of text tokens h p.trusted t why (stopped p.trusted (lines_of tokens) (record { labels = []; points = p }) why refl s)

  pub lex_fault : (text : List ℕ) (place : LexPlace) → lex.HasFault text place → HasFault m text (fault.Lex place.line)
  lex_fault text place h = record {
    cause = record { place = place; faulty = h.faulty; same = refl };
    unread = λ some marks r. h.listless r.tokens r.lexed;
  }

  -- ---- one line

  named_label_is : (l : Label) (o : Option SiteName) (name : SiteName) → o ≡ Some name → named_label l o ≡ (name, l) ∷ []
  named_label_is l o name e = rw e refl

  pub takes_label : (l : Label) (s : Spot) (name : SiteName) (xs ys : List (SiteName × Label)) (p : Points) → IsAt m s name → ys ≡ xs ++ (name, l) ∷ []
      → Takes m (Some (order.Label l s)) (record { labels = xs; points = p }) (record { labels = ys; points = p })
  takes_label l s name xs ys p h e = record {
    order = order.Label l s;
    read = refl;
    placed = (name, h);
    covered = tt;
    labels = e ∙ ap (λ z. xs ++ z) (sym (named_label_is l (spot_name m s) name h.0));
    trusted = refl;
    released = λ g k. refl;
  }

  pub takes_trust : (s : Subject) (f : ℕ) (xs : List (SiteName × Label)) (p : Points) → trusted_function m s ≡ Some f
      → Takes m (Some (order.Trust s)) (record { labels = xs; points = p }) (record { labels = xs; points = p })
  takes_trust s f xs p e = record {
    order = order.Trust s;
    read = refl;
    placed = (f, function_found s f e);
    covered = tt;
    labels = sym (append-nil xs);
    trusted = refl;
    released = λ g k. refl;
  }

  pub trusts_none : (s : Subject) → trusted_function m s ≡ None → ¬ (IsPlaced m (order.Trust s))
  trusts_none s e h = none_some (sym e ∙ function_there s h.0 h.1)

  pub takes_release : (s : Subject) (at : Option ℕ) (xs : List (SiteName × Label)) (p q : Points) → TakesRelease m s at p q
      → Takes m (Some (order.Release s at)) (record { labels = xs; points = p }) (record { labels = xs; points = q })
  takes_release s at xs p q h = record {
    order = order.Release s at;
    read = refl;
    placed = h.placed;
    covered = h.covered;
    labels = sym (append-nil xs);
    trusted = h.trusted;
    released = h.released;
  }

  pub bad_release : (s : Subject) (at : Option ℕ) (n : ℕ) (xs : List (SiteName × Label)) (p : Points) (e : Entry) (why : MarkFault) → e.order ≡ Some (order.Release s at) → e.line ≡ n → IsBadRelease m s at n p why
      → IsBad m e (record { labels = xs; points = p }) why
  bad_release s at n xs p e (fault.Lex line) o q h = h
  bad_release s at n xs p e (fault.Line line) o q h = absurd h
  bad_release s at n xs p e (fault.NoPlace line) o q h = (order.Release s at, o, h.0, q ∙ h.1)
  bad_release s at n xs p e (fault.Untrusted line) o q h = (order.Release s at, o, h.0, h.1, q ∙ h.2)
  bad_release s at n xs p e fault.NoMemory o q h = tt

  -- ---- releases stand in trusted functions

  are_releases : (T : List ℕ) (rs : List Release) → ((f k : ℕ) → has_release f k rs ≡ true → has_number f T ≡ true) → AllByRecursion (λ r. has_number r.func T ≡ true) rs
  are_releases T [] h = tt
  are_releases T (r ∷ rs) h =
      let own : (r.func == r.func && r.at == r.at) ≡ true = rw (eqb_self r.func, eqb_self r.at) refl in (
        h r.func r.at (or_left (r.func == r.func && r.at == r.at) (has_release r.func r.at rs) own),
        are_releases T rs (λ f k e. h f k (or_right (r.func == f && r.at == k) (has_release f k rs) e)),
      )

  zip_good : (all lines : List (List Lexeme)) (orders : List Order) (o : Order) → AllZip (IsGood m all) lines orders → Contains orders o → (line : List Lexeme) × IsGood m all line o
  zip_good all [] [] o h c = absurd (omega (arith, c.1))
  zip_good all [] (x ∷ xs) o h c = absurd h
  zip_good all (l ∷ ls) [] o h c = absurd h
  zip_good all (l ∷ ls) (x ∷ xs) o h c = go (λ q. zip_good all ls xs o h.1 q) (front_or x o xs c)
    where
      go : (Contains xs o → (line : List Lexeme) × IsGood m all line o) → (x ≡ o) ⊎ Contains xs o → (line : List Lexeme) × IsGood m all line o
      go more (inl e) = (l, subst (IsGood m all l) e h.0)
      go more (inr q) = more q

  pub reading_releases : (text : List ℕ) (marks : MarkList) → IsReading m text marks → AreReleases marks.points
  reading_releases text marks r = are_releases marks.points.trusted marks.points.releases each
    where
      each : (f k : ℕ) → has_release f k marks.points.releases ≡ true → has_number f marks.points.trusted ≡ true
      each f k e =
          let o = (r.released f k).0 e in
          let g = zip_good (lines_of r.tokens) (lines_of r.tokens) r.orders (order.Release o.0 o.1) r.read o.2 in
          let c = g.1.covered in
          let same : c.0 ≡ f = some_same (sym c.1 ∙ o.3.0) in
          (r.trusted f).1 (subst (IsTrusted m (lines_of r.tokens)) same c.2)

  -- ---- the lines of tokens as they are read

  module _ (text : List ℕ) (tokens : List Lexeme) (es : List Entry) (p : Points) (h : HasTokens text tokens) (e : es ≡ map line_entry (lines_of tokens)) (t : (f : ℕ) → has_number f p.trusted ≡ trusts_in m es f) where
    pub entries_read : (marks : MarkList) → p.releases ≡ [] → TakesAll m es (record { labels = []; points = p }) marks → HasReading m text marks
    entries_read marks none all =
        marks_read text tokens p marks h (λ f. t f ∙ ap (λ z. trusts_in m z f) e) none (subst (λ z. TakesAll m z (record { labels = []; points = p }) marks) e all)

    pub entries_fault : (why : MarkFault) → StopsIn m es (record { labels = []; points = p }) why → HasFault m text why
    entries_fault why s =
        marks_fault text tokens p why h (λ f. t f ∙ ap (λ z. trusts_in m z f) e) (subst (λ z. StopsIn m z (record { labels = []; points = p }) why) e s)
