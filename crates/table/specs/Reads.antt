-- How each kind of row is read on, in the form that the code holds it: `reads_node` gives the misplaced names of a node from
-- that form, `node_is` that they are those of the definition, `reads_lower` that the links are lower. Assumes nothing.
use Rattle.std.specs.Prelude.{ℕ, ◌<◌, ◌≡◌, refl, Bool, true, false, cond, not, ◌&&◌, ◌||◌, List, [], ◌∷◌, ◌++◌, T, ℤ}
use Rattle.script.specs.declared.ExpressionRow.{ExpressionRow}
use Rattle.script.specs.declared.ExpressionRow.TheVariants.{Constant, Variable, Arithmetic, Negate, Mark, Choose}
use Rattle.script.specs.declared.FormulaRow.{FormulaRow}
use Rattle.script.specs.declared.FormulaRow.TheVariants.{True, False, Comparison, Not, Junction}
use Rattle.script.specs.declared.StatementRow.{StatementRow}
use Rattle.script.specs.declared.StatementRow.TheVariants.{Skip, Assign, Sequence, If, While, Assert}
use Rattle.script.specs.declared.Row.{Row}
use Rattle.script.specs.Rows.{fields, parts, rows}
use Rattle.script.specs.Refusals.{member, frozen, all_below, in_range, misread_node}
use Rattle.theorems.specs.RowTrees.{lower₁, lower₂, lower₃}
use Rattle.table.specs.declared.Reads.{Reads}

abbrev pub expression_reads : Bool → ExpressionRow → Reads
expression_reads code (Constant z) = Reads.Nothing
expression_reads code (Variable v) = Reads.Variable v
expression_reads code (Arithmetic o a b) = Reads.Two code a b
expression_reads code (Negate a) = Reads.One code a
expression_reads code (Mark m) = Reads.Mark m
expression_reads code (Choose f a b) = Reads.Three code code f a b

abbrev pub formula_reads : Bool → FormulaRow → Reads
formula_reads code True = Reads.Nothing
formula_reads code False = Reads.Nothing
formula_reads code (Comparison o a b) = Reads.Two code a b
formula_reads code (Not f) = Reads.One code f
formula_reads code (Junction o f g) = Reads.Two code f g

abbrev pub statement_reads : StatementRow → Reads
statement_reads Skip = Reads.Nothing
statement_reads (Assign v e) = Reads.One true e
statement_reads (Sequence a b) = Reads.Two false a b
statement_reads (If b x y) = Reads.Three true false b x y
statement_reads (While b i x) = Reads.Loop b i x
statement_reads (Assert f) = Reads.One false f

abbrev pub reads_of : Bool → Row → Reads
reads_of code (Row.Expression x) = expression_reads code x
reads_of code (Row.Formula x) = formula_reads code x
reads_of code (Row.Statement x) = statement_reads x
reads_of code (Row.Note i v) = Reads.Two false i v
reads_of code (Row.Script p s q) = Reads.Three false false p s q
reads_of code Row.Unknown = Reads.Nothing

-- ---- the misplaced names of a node, from those M at and below its links

abbrev pub reads_node : (Bool → List ℕ → ℕ → List ℕ) → Bool → List ℕ → ℕ → Reads → List ℕ
reads_node M code inside r Reads.Nothing = []
reads_node M code inside r (Reads.Variable v) = cond (code && frozen v.0) (r ∷ []) []
reads_node M code inside r (Reads.Mark m) = cond (code || not (member m.0 inside)) (r ∷ []) []
reads_node M code inside r (Reads.One c a) = M c inside a.0
reads_node M code inside r (Reads.Two c a b) = M c inside a.0 ++ M c inside b.0
reads_node M code inside r (Reads.Three c d f a b) = M c inside f.0 ++ (M d inside a.0 ++ M d inside b.0)
reads_node M code inside r (Reads.Loop b i x) = M true inside b.0 ++ (M false inside i.0 ++ M false (r ∷ inside) x.0)

pub node_is : (ws : List ℤ) (M : Bool → List ℕ → ℕ → List ℕ) (code : Bool) (inside : List ℕ) (r : ℕ) (w : Row)
    → misread_node ws M code inside r w ≡ reads_node M code inside r (reads_of code w)
node_is ws M code inside r (Row.Expression (Constant z)) = refl
node_is ws M code inside r (Row.Expression (Variable v)) = refl
node_is ws M code inside r (Row.Expression (Arithmetic o a b)) = refl
node_is ws M code inside r (Row.Expression (Negate a)) = refl
node_is ws M code inside r (Row.Expression (Mark m)) = refl
node_is ws M code inside r (Row.Expression (Choose f a b)) = refl
node_is ws M code inside r (Row.Formula True) = refl
node_is ws M code inside r (Row.Formula False) = refl
node_is ws M code inside r (Row.Formula (Comparison o a b)) = refl
node_is ws M code inside r (Row.Formula (Not f)) = refl
node_is ws M code inside r (Row.Formula (Junction o f g)) = refl
node_is ws M code inside r (Row.Statement Skip) = refl
node_is ws M code inside r (Row.Statement (Assign v e)) = refl
node_is ws M code inside r (Row.Statement (Sequence a b)) = refl
node_is ws M code inside r (Row.Statement (If b x y)) = refl
node_is ws M code inside r (Row.Statement (While b i x)) = refl
node_is ws M code inside r (Row.Statement (Assert f)) = refl
node_is ws M code inside r (Row.Note i v) = refl
node_is ws M code inside r (Row.Script p s q) = refl
node_is ws M code inside r Row.Unknown = refl

-- ---- the links are lower, and a mark's row is in the table

abbrev pub Lower : ℕ → ℕ → Reads → Type 0
Lower n r Reads.Nothing = Unit {0}
Lower n r (Reads.Variable v) = Unit {0}
Lower n r (Reads.Mark m) = m.0 < n
Lower n r (Reads.One c a) = a.0 < r
Lower n r (Reads.Two c a b) = (a.0 < r) × (b.0 < r)
Lower n r (Reads.Three c d f a b) = (f.0 < r) × ((a.0 < r) × (b.0 < r))
Lower n r (Reads.Loop b i x) = (b.0 < r) × ((i.0 < r) × (x.0 < r))

pub reads_lower : (ws : List ℤ) (code : Bool) (r : ℕ) (w : Row) → T (all_below ws r (parts w)) → T (in_range ws (fields w))
    → Lower (rows ws) r (reads_of code w)
reads_lower ws code r (Row.Expression (Constant z)) l h = tt
reads_lower ws code r (Row.Expression (Variable v)) l h = tt
reads_lower ws code r (Row.Expression (Arithmetic o a b)) l h = lower₂ a.0 b.0 r l
reads_lower ws code r (Row.Expression (Negate a)) l h = lower₁ a.0 r l
reads_lower ws code r (Row.Expression (Mark m)) l h = lower₁ m.0 (rows ws) h
reads_lower ws code r (Row.Expression (Choose f a b)) l h = lower₃ f.0 a.0 b.0 r l
reads_lower ws code r (Row.Formula True) l h = tt
reads_lower ws code r (Row.Formula False) l h = tt
reads_lower ws code r (Row.Formula (Comparison o a b)) l h = lower₂ a.0 b.0 r l
reads_lower ws code r (Row.Formula (Not f)) l h = lower₁ f.0 r l
reads_lower ws code r (Row.Formula (Junction o f g)) l h = lower₂ f.0 g.0 r l
reads_lower ws code r (Row.Statement Skip) l h = tt
reads_lower ws code r (Row.Statement (Assign v e)) l h = lower₁ e.0 r l
reads_lower ws code r (Row.Statement (Sequence a b)) l h = lower₂ a.0 b.0 r l
reads_lower ws code r (Row.Statement (If b x y)) l h = lower₃ b.0 x.0 y.0 r l
reads_lower ws code r (Row.Statement (While b i x)) l h = lower₃ b.0 i.0 x.0 r l
reads_lower ws code r (Row.Statement (Assert f)) l h = lower₁ f.0 r l
reads_lower ws code r (Row.Note i v) l h = lower₂ i.0 v.0 r l
reads_lower ws code r (Row.Script p s q) l h = lower₃ p.0 s.0 q.0 r l
reads_lower ws code r Row.Unknown l h = tt
