mod Watchers
