mod ApartLemmas
mod FileLemmas
mod InterfaceFileLemmas
mod MergeLemmas
mod ReaderLemmas
