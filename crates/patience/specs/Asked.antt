-- What was asked, as a job and as limits.
use Rattle.streamliner.specs.declared.Streamliner.{Streamliner}
use Rattle.streamliner.specs.declared.Streamliner.TheVariants as streamliner
use Rattle.solve_job.specs.declared.limits.Limits.{Limits}
use Rattle.solve_job.specs.declared.limits.MemoKind.{MemoKind}
use Rattle.solve_job.specs.declared.limits.MemoKind.TheVariants as kind
use Rattle.solver_words.specs.declared.job.Job.{Job}
use Rattle.solver_words.specs.declared.job.Job.TheVariants as job
use Rattle.solver_words.specs.declared.job.MemoWord.{MemoWord}
use Rattle.solver_words.specs.declared.job.MemoWord.TheVariants as memo
use Rattle.solver_words.specs.declared.job.Way.{Way}
use Rattle.solver_words.specs.declared.job.Way.TheVariants as way
use Rattle.patience.specs.declared.asked.Asked.{Asked}

-- the job that solves with these options
abbrev pub job_asked : Asked → Job
job_asked asked = job.Solve asked.source asked.cache asked.nodes asked.narrow asked.way asked.memo

-- the restriction that the word names
abbrev pub way_asked : Way → Streamliner
way_asked way.Foundations = streamliner.AutoFoundations
way_asked way.Suits = streamliner.SuitSymmetry
way_asked way.Both = streamliner.Both

-- the memo that the word names
abbrev pub memo_asked : MemoWord → MemoKind
memo_asked memo.Linked = kind.Linked
memo_asked memo.Lru = kind.Lru

-- what the searches may spend and remember
abbrev pub limits_asked : Asked → Limits
limits_asked asked = record {
  cache = asked.cache;
  nodes = asked.nodes;
  narrow = asked.narrow;
  way = way_asked asked.way;
  memo = memo_asked asked.memo;
}
