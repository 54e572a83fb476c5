pub mod LittleEndians
