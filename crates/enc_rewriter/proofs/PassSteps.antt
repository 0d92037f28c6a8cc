-- What the passes over a module's values go by, step by step.
use Rattle.enc_rewriter.proofs.Fills.{fills_steps}
use Rattle.enc_rewriter.proofs.Gathers.{kind_cases, row_there}
use Rattle.enc_rewriter.proofs.KidsListed.{few_listed}
use Rattle.enc_rewriter.proofs.RowsPushed.{no_others}
use Rattle.enc_rewriter.proofs.Seen.{seen_still}

-- a cell's values are gathered
pub ruleset cell_steps = (kind_cases, seen_still)

-- a table's values are gathered, row by row
pub ruleset table_steps = (fills_steps, row_there)

-- the rows of a Ptr table are listed
pub ruleset ptr_steps = (few_listed, no_others)
