-- A condition whose numbers are in range is read back where its trailer ends (`line_back`), and a condition that is read
-- there stands there (`line_only`), in either form of a list. The trailer is the three or four words before the end; its third
-- tells where the formula begins, and the words from there to the trailer spell the claim (`Spelling`). Assumes nothing.
use Rattle.std.specs.Prelude.{ℕ, suc, ◌+◌, ◌-◌, ◌≤◌, ◌<◌, ◌≡◌, refl, List, [], ◌∷◌, ◌++◌, Bool, true, false, cond, ◌&&◌, ℤ, pos, negsuc, eqb, ltb, leb, length, get_or, take, drop}
use Rattle.std.proofs.Common.{sym, ap, ◌∙◌, subst, append_assoc, add_assoc, add-zero, arith as linear, length-append, length-drop, take-append-drop, get_or-append-add, take-add, get_or-drop, take-take, eqb-true, lt-ltb, ltb-true, le-leb, leb-true}
use Rattle.std.proofs.Math.Option.{Option, none, some}
use Rattle.std.proofs.Math.Bool.{and-eq-true_iff}
use Rattle.std.proofs.Math.Seq.{slice, take-append-add, take-append_seam, drop-append_seam, length-slice}
use Rattle.script.specs.declared.Rule.{Rule}
use Rattle.script.specs.declared.Rule.TheVariants.{Exit, Floor, Step, Main, Guard}
use Rattle.script.specs.Laws.{pos_inj}
use Rattle.script.specs.Rows.{field_number, variables}
use Rattle.script.specs.Conditions.{Condition}
use Rattle.script.specs.Words.{formula_words, rule_number, Form, without_depth, with_depth, depth_words, trailer, line_words}
use Rattle.script.specs.WellFormed.{InRangeᶠ, DepthInRange}
use Rattle.script.specs.Listing.{below, rule_of, depth_limit, depth_word, trailer_length, Found, found, found_within, found_at_within, line_before, line_before_within, spelled, row_limit}
use Rattle.theorems.specs.Options.{none_is_not, some_inj, went_on, held}
use Rattle.theorems.specs.Spelling.{spelled_words, spelled_only}

-- the condition c, with its formula from s on
abbrev pub place : ℕ → Condition → Found
place s c = record { condition = c; start = s; end = s + length (formula_words c.claim) }

-- ---- what is written is read

pub slice_part : (front part tail : List ℤ) → slice (length front) (length front + length part) (front ++ (part ++ tail)) ≡ part
slice_part front part tail =
    ap (λ l. drop (length front) l) (take-append-add front (part ++ tail) (length part) ∙ ap (λ l. front ++ l) (take-append_seam part tail))
    ∙ drop-append_seam front part

rule_back : (r : Rule) → rule_of (rule_number r) ≡ some r
rule_back Exit = refl
rule_back Floor = refl
rule_back Step = refl
rule_back Main = refl
rule_back Guard = refl

found_back : (front tail : List ℤ) (c : Condition) → c.row < row_limit → c.depth < depth_limit → InRangeᶠ c.claim
    → (n : ℕ) → n ≡ length (formula_words c.claim)
    → found (front ++ (formula_words c.claim ++ tail)) (length front + n) (pos (rule_number c.rule)) (pos c.row) (pos n) (pos c.depth)
    ≡ some (place (length front) c)
unfolding found_within
found_back front tail c h d r n e =
    let start : length front + n - n ≡ length front = omega linear in
    let low = lt-ltb c.row row_limit h in
    let fits = lt-ltb n (suc (length front + n)) (omega linear) in
    let shallow = lt-ltb c.depth depth_limit d in
    rw (rule_back c.rule, low, fits, shallow, start, e, slice_part front (formula_words c.claim) tail, spelled_words variables c.claim r)

-- the trailer is the words before the end
line_before_is : (form : Form) (ws : List ℤ) (m : ℕ) → m + trailer_length form ≤ length ws
    → line_before form ws (m + trailer_length form) ≡ found_at_within variables form ws m
unfolding line_before_within
line_before_is form ws m h =
    let t = trailer_length form in
    let first : m + t - t ≡ m = omega linear in
    rw (le-leb t (m + t) (omega linear), le-leb (m + t) (length ws) h, first)

pub word_after : (front part ys : List ℤ) (i : ℕ) → get_or (front ++ (part ++ ys)) (length front + length part + i) (pos 0) ≡ get_or ys i (pos 0)
word_after front part ys i =
    ap (λ n. get_or (front ++ (part ++ ys)) n (pos 0)) (add_assoc (length front) (length part) i)
    ∙ get_or-append-add front (part ++ ys) (length part + i) (pos 0)
    ∙ get_or-append-add part ys i (pos 0)

-- how many words tell the depth
trailer_ends : (form : Form) (d : ℕ) → 3 + length (depth_words form d) ≡ trailer_length form
trailer_ends without_depth d = refl
trailer_ends with_depth d = refl

pub trailer_size : (form : Form) (c : Condition) → length (trailer form c) ≡ trailer_length form
trailer_size form c = omega (linear, trailer_ends form c.depth)

-- the word after the length tells the depth of a condition in range, whatever stands behind the trailer
depth_told : (form : Form) (d : ℕ) (tail : List ℤ) → DepthInRange form d
    → (depth_word form (get_or (depth_words form d ++ tail) 0 (pos 0)) ≡ pos d) × (d < depth_limit)
depth_told without_depth d tail h = (ap pos (sym h), omega linear)
depth_told with_depth d tail h = (refl, h)

-- a part with a trailer's words after it is read as a formula with its trailer
read_as : (form : Form) (front part tail : List ℤ) (k r n : ℤ) (d e : ℕ) → e ≡ length front + length part + trailer_length form
    → line_before form (front ++ (part ++ (k ∷ r ∷ n ∷ (depth_words form d ++ tail)))) e
    ≡ found (front ++ (part ++ (k ∷ r ∷ n ∷ (depth_words form d ++ tail)))) (length front + length part) k r n
    (depth_word form (get_or (depth_words form d ++ tail) 0 (pos 0)))
read_as form front part tail k r n d e q =
    let after = k ∷ r ∷ n ∷ (depth_words form d ++ tail) in
    let ws = front ++ (part ++ after) in
    let m = length front + length part in
    let long : m + trailer_length form ≤ length ws =
    omega (linear, length-append front (part ++ after), length-append part after, length-append (depth_words form d) tail, trailer_ends form d) in
    let first : get_or ws m (pos 0) ≡ k = rw add-zero at (word_after front part after 0) in
    rw (q, line_before_is form ws m long, first, word_after front part after 1, word_after front part after 2, word_after front part after 3)

pub line_back : (form : Form) (front tail : List ℤ) (c : Condition) → (c.row < row_limit) × DepthInRange form c.depth → InRangeᶠ c.claim
    → line_before form (front ++ (line_words form c ++ tail)) (length front + length (line_words form c)) ≡ some (place (length front) c)
unfolding line_words
line_back form front tail c h r =
    let part = formula_words c.claim in
    let told = depth_told form c.depth tail h.1 in
    let end : length front + length (part ++ trailer form c) ≡ length front + length part + trailer_length form =
    omega (linear, length-append part (trailer form c), trailer_ends form c.depth) in
    rw (append_assoc part (trailer form c) tail, read_as form front part tail _ _ _ c.depth _ end, told.0)
    (found_back front (trailer form c ++ tail) c h.0 told.1 r (length part) refl)

-- ---- only what is written is read

-- the number of the first rule, or else of a later one
first_rule : (n : ℕ) (a r : Rule) (later : Option Rule) → (later ≡ some r → rule_number r ≡ n)
    → cond (eqb n (rule_number a)) (some a) later ≡ some r → rule_number r ≡ n
first_rule n a r later h e = pick (eqb n (rule_number a)) refl e
  where
    pick : (t : Bool) → eqb n (rule_number a) ≡ t → cond t (some a) later ≡ some r → rule_number r ≡ n
    pick true p q = ap rule_number (sym (some_inj q)) ∙ sym (eqb-true n (rule_number a) p)
    pick false p q = h q

rule_only : (k : ℤ) (r : Rule) → rule_of (field_number k) ≡ some r → pos (rule_number r) ≡ k
rule_only (negsuc n) r e = none_is_not e
rule_only (pos n) r e =
    ap pos
    (first_rule n Exit r _ (first_rule n Floor r _ (first_rule n Step r _ (first_rule n Main r _ (first_rule n Guard r none (λ q. none_is_not q))))) e)

size_only : (limit : ℕ) (w : ℤ) (n : ℕ) → below limit w ≡ some n → (pos n ≡ w) × (n < limit)
size_only limit (negsuc m) n e = none_is_not e
size_only limit (pos m) n e =
    let h = held (ltb m limit) (some m) e in
    subst (λ x. (pos x ≡ pos m) × (x < limit)) (some_inj h.1) (refl, ltb-true m limit h.0)

-- a formula that ends at e, with the trailer k, r, n, d after it
record Read_from (ws : List ℤ) (e : ℕ) (k r n d : ℤ) (f : Found) : Type 0 where
  rule_is : pos (rule_number f.condition.rule) ≡ k
  row_is : pos f.condition.row ≡ r
  row_low : f.condition.row < row_limit
  size_is : pos (length (formula_words f.condition.claim)) ≡ n
  depth_is : pos f.condition.depth ≡ d
  depth_low : f.condition.depth < depth_limit
  starts : f.start + length (formula_words f.condition.claim) ≡ e
  claim_is : formula_words f.condition.claim ≡ slice f.start e ws
  range : InRangeᶠ f.condition.claim

found_only : (ws : List ℤ) (e : ℕ) (k r n d : ℤ) (f : Found) → e ≤ length ws → found ws e k r n d ≡ some f → Read_from ws e k r n d f
unfolding found_within
found_only ws e k r n d f l q =
    let rule = went_on (rule_of (field_number k)) _ q in
    let row = went_on (below row_limit r) _ rule.2 in
    let size = went_on (below (suc e) n) _ row.2 in
    let depth = went_on (below depth_limit d) _ size.2 in
    let claim = went_on (spelled (slice (e - size.0) e ws)) _ depth.2 in
    let s = size_only (suc e) n size.0 size.1 in
    let t = size_only row_limit r row.0 row.1 in
    let u = size_only depth_limit d depth.0 depth.1 in
    let c = spelled_only variables (omega linear) (slice (e - size.0) e ws) claim.0 claim.1 in
    let len : length (formula_words claim.0) ≡ size.0 = ap length c.0 ∙ length-slice (e - size.0) e ws l ∙ omega linear in
    subst (λ x. Read_from ws e k r n d x) (some_inj claim.2)
    (record {
      rule_is = rule_only k rule.0 rule.1;
      row_is = t.0;
      row_low = t.1;
      size_is = ap pos len ∙ s.0;
      depth_is = u.0;
      depth_low = u.1;
      starts = omega linear;
      claim_is = c.0;
      range = c.1;
    })

-- the condition f stands before e: its line is what the words up to e have more than those up to its start
pub record LineEnds (form : Form) (ws : List ℤ) (e : ℕ) (f : Found) : Type 0 where
  pub whole : take f.start ws ++ line_words form f.condition ≡ take e ws
  pub numbers : (f.condition.row < row_limit) × DepthInRange form f.condition.depth
  pub range : InRangeᶠ f.condition.claim

-- the words of a trailer at the front of a list, where a number tells its depth word
front_words : (form : Form) (l : List ℤ) (d : ℕ) → trailer_length form ≤ length l → pos d ≡ depth_word form (get_or l 3 (pos 0))
    → get_or l 0 (pos 0) ∷ get_or l 1 (pos 0) ∷ get_or l 2 (pos 0) ∷ depth_words form d ≡ take (trailer_length form) l
front_words without_depth [] d h q = absurd (omega linear)
front_words without_depth (x ∷ []) d h q = absurd (omega linear)
front_words without_depth (x ∷ y ∷ []) d h q = absurd (omega linear)
front_words without_depth (x ∷ y ∷ z ∷ l) d h q = refl
front_words with_depth [] d h q = absurd (omega linear)
front_words with_depth (x ∷ []) d h q = absurd (omega linear)
front_words with_depth (x ∷ y ∷ []) d h q = absurd (omega linear)
front_words with_depth (x ∷ y ∷ z ∷ []) d h q = absurd (omega linear)
front_words with_depth (x ∷ y ∷ z ∷ w ∷ l) d h q = ap (λ v. x ∷ y ∷ z ∷ v ∷ []) q

words_after : (form : Form) (ws : List ℤ) (m d : ℕ) → m + trailer_length form ≤ length ws → pos d ≡ depth_word form (get_or ws (m + 3) (pos 0))
    → take m ws ++ (get_or ws m (pos 0) ∷ get_or ws (m + 1) (pos 0) ∷ get_or ws (m + 2) (pos 0) ∷ depth_words form d) ≡ take (m + trailer_length form) ws
words_after form ws m d l q =
    let long : trailer_length form ≤ length (drop m ws) = simp length-drop (omega linear) in
    let first : get_or (drop m ws) 0 (pos 0) ≡ get_or ws m (pos 0) = rw add-zero at (get_or-drop m ws 0 (pos 0)) in
    let told : pos d ≡ depth_word form (get_or (drop m ws) 3 (pos 0)) = rw (get_or-drop m ws 3 (pos 0)) q in
    rw (take-add m (trailer_length form) ws, ← front_words form (drop m ws) d long told, first, get_or-drop m ws 1 (pos 0), get_or-drop m ws 2 (pos 0))

up_to : (s m : ℕ) (ws : List ℤ) → s ≤ m → take s ws ++ slice s m ws ≡ take m ws
up_to s m ws h = ap (λ l. l ++ slice s m ws) (sym (take-take s m ws h)) ∙ take-append-drop s (take m ws)

-- a depth that was told is in range
told_in_range : (form : Form) (d : ℕ) (w : ℤ) → pos d ≡ depth_word form w → d < depth_limit → DepthInRange form d
told_in_range without_depth d w q h = pos_inj q
told_in_range with_depth d w q h = h

line_from : (form : Form) (ws : List ℤ) (m : ℕ) (f : Found) → m + trailer_length form ≤ length ws
    → line_before form ws (m + trailer_length form) ≡ some f → LineEnds form ws (m + trailer_length form) f
unfolding line_words
line_from form ws m f l q =
    let r = found_only ws m _ _ _ _ f (omega linear) (sym (line_before_is form ws m l) ∙ q) in
    let s = f.start in
    let part = formula_words f.condition.claim in
    let front : take s ws ++ part ≡ take m ws = rw r.claim_is (up_to s m ws (omega linear)) in
    let grouped = append_assoc (take s ws) part (trailer form f.condition) in
    record {
      whole = sym grouped ∙ rw (front, r.rule_is, r.row_is, r.size_is) (words_after form ws m f.condition.depth l r.depth_is);
      numbers = (r.row_low, told_in_range form f.condition.depth _ r.depth_is r.depth_low);
      range = r.range;
    }

pub line_only : (form : Form) (ws : List ℤ) (e : ℕ) (f : Found) → line_before form ws e ≡ some f → LineEnds form ws e f
unfolding line_before_within
line_only form ws e f q =
    let t = trailer_length form in
    let tests = (and-eq-true_iff (leb t e) (leb e (length ws))).0 (held (leb t e && leb e (length ws)) _ q).0 in
    let low = leb-true t e tests.0 in
    let high = leb-true e (length ws) tests.1 in
    let split : e - t + t ≡ e = omega linear in
    subst (λ n. LineEnds form ws n f) split (line_from form ws (e - t) f (omega linear) (rw split q))
