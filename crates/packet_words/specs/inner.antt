pub mod ViewedPackets
