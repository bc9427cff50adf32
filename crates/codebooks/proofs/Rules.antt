-- The rules of specs/Rules.antt: one computed test, used for each of the three codebooks.
use Rattle.std.specs.Prelude.{Bool, ◌&&◌, List, ℕ, ◌+◌, T, ltb, ℤ, pos, length}
use Rattle.std.proofs.Math.Dec.{eqb, eqb→eq, ltb→lt}
use Rattle.std.specs.Int.Signed.{mag}
use Rattle.integers.specs.Base.{every, entry}
use Rattle.integers.specs.Table.{every-at, and_left, and_right}
use Rattle.tables.specs.Constants.{band0_size, band1_size, band2_size}
use Rattle.tables.specs.Tables.{mean_lsps}
use Rattle.codebooks.specs.Codebooks.{band0, band1, band2}
use Rattle.codebooks.specs.Rules.{with_mean, entries_of, Codebook, Band0Rule, Band1Rule, Band2Rule}

module _ (p n : ℕ) (table : List ℤ) where
  sum_test : ℕ → ℤ → Bool
  sum_test k x = ltb (mag (with_mean p n k x)) 32768

  codebook : T (eqb (length table) (entries_of n) && every sum_test 0 table) → Codebook p n table
  unfolding sum_test
  codebook t =
      let sized = eqb (length table) (entries_of n) in
      let tested = every sum_test 0 table in
      record {
        size = eqb→eq (length table) (entries_of n) (and_left sized tested t);
        sums = λ k h. record {
          sfits = ltb→lt (mag (with_mean p n k (entry table k))) 32768 (every-at sum_test table (and_right sized tested t) k h (pos 0));
        };
      }

pub band0_rule : Band0Rule
unfolding every sum_test mean_lsps band0
band0_rule = codebook 0 band0_size band0 tt

pub band1_rule : Band1Rule
unfolding every sum_test mean_lsps band1
band1_rule = codebook band0_size band1_size band1 tt

pub band2_rule : Band2Rule
unfolding every sum_test mean_lsps band2
band2_rule = codebook (band0_size + band1_size) band2_size band2 tt
