-- How many packets were given each kind of verdict, in words of 64 bits.
use Rattle.std.specs.Prelude.{ℕ, ◌+◌, ◌^◌, ◌%◌}
use Rattle.session_state.specs.declared.verdict.Verdict.{Verdict}
use Rattle.session_state.specs.declared.verdict.Verdict.TheVariants as verdict
use Rattle.flow_judge.specs.declared.counts.Counts.{Counts}

abbrev pub no_counts : Counts
no_counts = record {
  session = 0;
  reflect = 0;
  permit = 0;
  deny = 0;
  by_default = 0;
  worn = 0;
  full = 0;
  no_pages = 0;
  not_ip = 0;
  malformed = 0;
  cut_short = 0;
}

-- a sum of counts, which begin again at 0 behind the last word
abbrev pub in_all : ℕ → ℕ → ℕ
in_all m n = (m + n) % 2 ^ 64

-- one packet more was given this verdict
abbrev pub counted : Counts → Verdict → Counts
counted c verdict.Session = record c { session = in_all c.session 1 }
counted c (verdict.Reflect rule) = record c { reflect = in_all c.reflect 1 }
counted c (verdict.Permit rule) = record c { permit = in_all c.permit 1 }
counted c (verdict.Deny rule) = record c { deny = in_all c.deny 1 }
counted c verdict.ByDefault = record c { by_default = in_all c.by_default 1 }
counted c verdict.Worn = record c { worn = in_all c.worn 1 }
counted c verdict.Full = record c { full = in_all c.full 1 }
counted c verdict.NoPages = record c { no_pages = in_all c.no_pages 1 }
counted c verdict.NotIp = record c { not_ip = in_all c.not_ip 1 }
counted c verdict.Malformed = record c { malformed = in_all c.malformed 1 }
counted c verdict.Short = record c { cut_short = in_all c.cut_short 1 }

-- the packets of both
abbrev pub added : Counts → Counts → Counts
added c d = record {
  session = in_all c.session d.session;
  reflect = in_all c.reflect d.reflect;
  permit = in_all c.permit d.permit;
  deny = in_all c.deny d.deny;
  by_default = in_all c.by_default d.by_default;
  worn = in_all c.worn d.worn;
  full = in_all c.full d.full;
  no_pages = in_all c.no_pages d.no_pages;
  not_ip = in_all c.not_ip d.not_ip;
  malformed = in_all c.malformed d.malformed;
  cut_short = in_all c.cut_short d.cut_short;
}
