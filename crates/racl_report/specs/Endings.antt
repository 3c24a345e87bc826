-- What the program says on standard error before it ends (this project's profile).
use Rattle.std.specs.Prelude.{◌==◌, ◌||◌, ℕ, Bool, true, false, List, Option, None, Some, Result, Ok, Err, length, nat_lt, slice_index_or, if◌then◌else◌}
use Rattle.packet_view.specs.Captures.{link_type}
use Rattle.packet_view.specs.declared.capture.Order.TheVariants.{Big, Little}
use Rattle.racl_io.specs.Others.{is_capture, other_of}
use Rattle.racl_io.specs.declared.fault.Fault.{Fault}
use Rattle.racl_io.specs.declared.fault.Fault.TheVariants.{Magic, LinkType, LongRecord, NotUtf8}
use Rattle.racl_io.specs.declared.file_kind.Other.{Other}
use Rattle.racl_report.specs.declared.message_texts.Frames.{Frames}
use Rattle.racl_report.specs.declared.message_texts.Frames.TheVariants as frames
use Rattle.racl_report.specs.declared.message_texts.Hint.{Hint}
use Rattle.racl_report.specs.declared.message_texts.Hint.TheVariants.{Swapped, TwoCaptures}
use Rattle.racl_report.specs.declared.message_texts.Message.{Message}
use Rattle.racl_report.specs.declared.message_texts.Shortage.{Shortage}
use Rattle.racl_report.specs.declared.message_texts.Shortage.TheVariants as shortage
use Rattle.racl_options.specs.declared.settings.TableSize.{TableSize}
use Rattle.racl_options.specs.declared.settings.TableSize.TheVariants.{Standard, Large}
use Rattle.racl_report.specs.declared.message_texts.Message.TheVariants as message
use Rattle.racl_io.specs.declared.totals_and_truncation.Totals.{Totals}

-- nothing after a report, and the fault where there is none
abbrev pub said_after : Result Totals Fault → Option Message
said_after (Ok totals) = None
said_after (Err fault) = Some (message.Fault fault)

-- what a capture file is that begins with these bytes, where the fault is that it is no capture, or not of Ethernet
abbrev pub remark_on : Result Totals Fault → List ℕ → Option Other
remark_on (Err Magic) front = other_of front
remark_on (Err LinkType) front = other_of front
remark_on _ front = None

-- ---- frames that aren't those of Ethernet (the registry of link types of the pcap format)

-- RAW, also by two numbers of its own on some systems, IPV4 and IPV6
abbrev pub is_raw_ip : ℕ → Bool
is_raw_ip link = (link == 101) || ((link == 12) || ((link == 14) || ((link == 228) || (link == 229))))

-- IEEE802_11, with the header of Prism, radiotap or AVS before it, and PPI
abbrev pub is_wifi : ℕ → Bool
is_wifi link = (link == 105) || ((link == 119) || ((link == 127) || ((link == 163) || (link == 192))))

-- NULL and LOOP
abbrev pub is_loopback : ℕ → Bool
is_loopback link = (link == 0) || (link == 108)

-- PPP, PPP_HDLC, C_HDLC, FRELAY and PPP_WITH_DIR
abbrev pub is_serial : ℕ → Bool
is_serial link = (link == 9) || ((link == 50) || ((link == 104) || ((link == 107) || (link == 204))))

-- PFLOG and NFLOG
abbrev pub is_logged : ℕ → Bool
is_logged link = (link == 117) || (link == 239)

abbrev pub frames_by : ℕ → Frames
frames_by link = if is_raw_ip link then frames.RawIp link
    else if is_wifi link then frames.WiFi link
    else if is_loopback link then frames.Loopback link
    else if is_serial link then frames.Serial link
    else if is_logged link then frames.Logged link
    else frames.Another link

-- the link type of a header, whose numbers have the high byte first where its first byte is a1
abbrev pub link_in : List ℕ → ℕ
link_in front = if slice_index_or front 0 0 == 0xa1 then link_type Big front else link_type Little front

-- what the frames are of a capture that begins with these bytes, the whole header, where the fault is that they aren't those of Ethernet
abbrev pub frames_on : Result Totals Fault → List ℕ → Option Frames
frames_on (Err LinkType) front = if nat_lt (length front) 24 then None else Some (frames_by (link_in front))
frames_on _ front = None

-- what is likely, the file of the policy being so: where a record is too long that isn't the first, that two captures stand
-- one behind the other (of the header of the second one, read as those of records, the first bytes are an empty record, and
-- the next ones one that is too long); and where the policy isn't UTF-8, that it is a capture
abbrev pub hint_on : Result Totals Fault → List ℕ → Option Hint
hint_on (Err (LongRecord number)) policy = if nat_lt 1 number then Some TwoCaptures else None
hint_on (Err NotUtf8) policy = if is_capture policy then Some Swapped else None
hint_on _ policy = None

-- which options help that weren't asked for, by whether sessions that have ended are removed, and the size of the tables
abbrev pub shortage_of : Bool → TableSize → ℕ → Shortage
shortage_of false Standard count = shortage.Standing count
shortage_of true Standard count = shortage.Ageing count
shortage_of false Large count = shortage.Large count
shortage_of true Large count = shortage.AgeingLarge count

-- behind a report of which some verdicts say no-pages, how many, and what helps
abbrev pub shortage_on : Bool → TableSize → Result Totals Fault → Option Shortage
shortage_on ages size (Ok totals) = if totals.without_pages == 0 then None else Some (shortage_of ages size totals.without_pages)
shortage_on ages size (Err fault) = None
